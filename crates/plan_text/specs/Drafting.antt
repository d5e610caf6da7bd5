-- The working values of the reading of a text, as its definition has them.
use Rattle.std.specs.Prelude.{Option, Some, None, is_some, Result, Ok, Err, Bool, ℕ, ◌≤◌, ◌<◌, ◌≡◌, true, List, length, get_or}
use Rattle.cqf.specs.Bounded.{distinct}
use Rattle.cqf.specs.Limits.{flow_slots, max_hops, port_ok, flow_ok}
use Rattle.cqf.specs.Form.{form_number}
use Rattle.cqf.specs.Plan.{Plan, Clock, equal_clocks}
use Rattle.numbers.specs.Clock.{clock_of}
use Rattle.tables.specs.Columns.{plan_by}
use Rattle.plan_text.specs.Line.{form_by}
use Rattle.plan_text.specs.Reading.{numbers_by, Fits}
use Rattle.plan_text.specs.Text.{Absent, Reading, reads, rejected, closing, Draft, Step, stop, more, added, step_at}
use Rattle.plan_text.specs.declared.grammar.Kind.{Kind}
use Rattle.plan_text.specs.declared.absent.Absent as absent
use Rattle.plan_text.specs.declared.draft.Draft as draft
use Rattle.plan_text.specs.declared.refusal.LineRefusal.{LineRefusal}
use Rattle.plan_text.specs.declared.refusal.TextRefusal.{TextRefusal}
use Rattle.plan_text.specs.declared.text.TextPlan.{TextPlan}
use Rattle.numbers.specs.declared.clock.Clock as clock
use Rattle.tables.specs.declared.Planner.{Planner}

-- what a text says once, or what stands for it before
abbrev pub said : Option ℕ → ℕ
said (Some n) = n
said None = 0

abbrev pub clock_said : Option clock.Clock → Clock
clock_said (Some k) = clock_of k
clock_said None = equal_clocks

-- the draft that the code has
abbrev pub draft_of : draft.Draft → Draft
draft_of d =
    record {
      newer = d.newer;
      begun = d.begun;
      guarded = is_some d.guard;
      topped = is_some d.top;
      clocked = is_some d.clock;
      flowing = d.flowing;
      tables =
          plan_by (said d.guard) (said d.top) (clock_said d.clock) d.tables.rates d.tables.blockings d.tables.extras d.tables.periods d.tables.counts d.tables.lengths
          d.tables.jitters d.tables.hops d.tables.routes;
      lines = d.lines;
    }

-- one line read
abbrev pub progress_of : Result (Unit {0}) LineRefusal → Draft → Step
progress_of (Ok u) d = more d
progress_of (Err r) d = stop r.fault r.item r.value

-- numbers and a route in arrays, of a line that passed its tests
pub record Passed (newer : Bool) (kind : Kind) (numbers route : List ℕ) : Type 0 where
  pub room : max_hops ≤ length numbers
  pub fits : Fits (form_by newer) kind (numbers_by kind numbers) route

-- the number of a port or a flow is one
pub record AgainAsked (kind : Kind) (numbers : List ℕ) : Type 0 where
  pub room : max_hops ≤ length numbers
  pub port : kind ≡ Kind.Port → port_ok (get_or numbers 0 0) ≡ true
  pub flow : kind ≡ Kind.Flow → flow_ok (get_or numbers 0 0) ≡ true

-- a line more: none, or one that passed its tests and is new
pub data Goes (number : ℕ) (d e : Draft) : Type 0 where
  idle : d ≡ e → Goes number d e
  takes : (kind : Kind) (ns r : List ℕ) → Fits (form_by d.newer) kind ns r → distinct r ≡ true → added kind number ns r d ≡ e → Goes number d e

-- a line taken as the definition takes it, and where the reading goes on what was taken passed its tests
pub record StepsAs (number : ℕ) (d : Draft) (line : List ℕ) (s : Step) : Type 0 where
  pub steps : s ≡ step_at number d line
  pub keeps : (e : Draft) → s ≡ more e → Goes number d e

-- the flow that the code found, and a port of its route
abbrev pub absent_of : Option absent.Absent → Absent
absent_of (Some a) = record { line = a.line; named = a.named }
absent_of None = record { line = 0; named = 0 }

abbrev pub named_of : Option ℕ → ℕ
named_of (Some n) = n
named_of None = 0

-- no route is longer than its places
abbrev pub HopsWithin : List ℕ → Type 0
HopsWithin hops = (f : ℕ) → f < flow_slots → get_or hops f 0 ≤ max_hops

-- a whole text read, into these tables
abbrev pub reading_of : Result TextPlan TextRefusal → Plan → Reading
reading_of (Ok t) p = reads (form_by t.newer) p
reading_of (Err r) p = rejected r.line r.fault r.item r.value

-- the end of the reading
abbrev pub ClosesAs : Draft → (number : ℕ) → Result TextPlan TextRefusal → Type 0
ClosesAs d number answer = reading_of answer d.tables ≡ closing d number

-- the planner with the tables of a draft, in this form
pub record HoldsDraft (newer : Bool) (d : draft.Draft) (s : Planner) : Type 0 where
  pub form : s.form ≡ form_number (form_by newer)
  pub tables
      : plan_by s.guard s.top (clock_of s.clock) s.rates s.blockings s.extras s.periods s.counts s.lengths s.jitters s.hops s.routes
      ≡ (draft_of d).tables
