-- What a text says: its lines from the front, each tested and stored, then what is missing, then ports that are not in the plan.
use Rattle.std.specs.Prelude.{ℕ, zero, suc, ◌-◌, ◌*◌, Bool, false, not, cond, ◌||◌, List, [], ◌∷◌, eqb, leb, ltb, length, get_or, set, replicate}
use Rattle.cqf.specs.Bounded.{distinct, sublist}
use Rattle.cqf.specs.Form.{Form}
use Rattle.cqf.specs.Limits.{flow_slots, route_stride}
use Rattle.cqf.specs.Plan.{Clock, Plan, no_plan, rate_of, period_of, port_in}
use Rattle.plan_reading.specs.Part.{Part, port, flow, extra, jitter, clock}
use Rattle.plan_reading.specs.Store.{store_all}
use Rattle.words.specs.Lines.{lines, uncommented, said_lines}
use Rattle.words.specs.Words.{words}
use Rattle.plan_text.specs.Kinds.{item_of, is_guard, is_top, is_flow, is_clocks, is_format}
use Rattle.plan_text.specs.Line.{Line, nothing, says, refused, form_by, line_of}
use Rattle.plan_text.specs.declared.grammar.Item.{Item}
use Rattle.plan_text.specs.declared.grammar.Kind.{Kind}
use Rattle.plan_text.specs.declared.grammar.Fault.{Fault}

-- a text has at most so many bytes
abbrev pub max_text : ℕ
max_text = 65536

-- what has been read so far: whether the newer form was asked for; whether another line was read; which of the things that a text says
-- once, and whether a flow; the tables, and for each flow the number of its line
pub record Draft : Type 0 where
  pub newer : Bool
  pub begun : Bool
  pub guarded : Bool
  pub topped : Bool
  pub clocked : Bool
  pub flowing : Bool
  pub tables : Plan
  pub lines : List ℕ

unfoldable pub blank : Draft
unfolding no_plan
blank =
    record {
      newer = false;
      begun = false;
      guarded = false;
      topped = false;
      clocked = false;
      flowing = false;
      tables = no_plan;
      lines = replicate flow_slots 0;
    }

-- the number of a port or a flow, the first of its line
abbrev pub own : List ℕ → ℕ
own ns = get_or ns 0 0

-- whether a line of this kind says a thing again: of a port or a flow by its number
abbrev pub is_again : Kind → (number : ℕ) → Draft → Bool
is_again Kind.Guard n d = d.guarded
is_again Kind.Top n d = d.topped
is_again Kind.Port n d = ltb 0 (rate_of d.tables (n - 1))
is_again Kind.Flow n d = ltb 0 (period_of d.tables (n - 1))
is_again Kind.Clocks n d = d.clocked
is_again Kind.Format n d = d.newer
is_again Kind.Other n d = false

-- the guard band and the top, each in its own line
abbrev pub with_guard : ℕ → Plan → Plan
with_guard guard p =
    record {
      guard = guard;
      top = p.top;
      clock = p.clock;
      rates = p.rates;
      blockings = p.blockings;
      extras = p.extras;
      periods = p.periods;
      counts = p.counts;
      lengths = p.lengths;
      jitters = p.jitters;
      hops = p.hops;
      routes = p.routes;
    }

abbrev pub with_top : ℕ → Plan → Plan
with_top top p =
    record {
      guard = p.guard;
      top = top;
      clock = p.clock;
      rates = p.rates;
      blockings = p.blockings;
      extras = p.extras;
      periods = p.periods;
      counts = p.counts;
      lengths = p.lengths;
      jitters = p.jitters;
      hops = p.hops;
      routes = p.routes;
    }

-- what a line of a port, a flow or the clocks says
abbrev pub port_parts : List ℕ → List Part
port_parts ns = port (own ns) (get_or ns 1 0) (get_or ns 2 0) ∷ extra (own ns) (get_or ns 3 0) ∷ []

abbrev pub flow_parts : (numbers route : List ℕ) → List Part
flow_parts ns r = flow (own ns) (get_or ns 1 0) (get_or ns 2 0) (get_or ns 3 0) r ∷ jitter (own ns) (get_or ns 4 0) ∷ []

abbrev pub clock_in : List ℕ → Clock
clock_in ns = record { drift = own ns; timing_jitter_of = get_or ns 1 0; sync_error_of = get_or ns 2 0 }

abbrev pub clock_parts : List ℕ → List Part
clock_parts ns = clock (clock_in ns) ∷ []

-- the tables with a line stored
unfoldable pub stored : Kind → (numbers route : List ℕ) → Plan → Plan
unfolding store_all
stored Kind.Guard ns r p = with_guard (own ns) p
stored Kind.Top ns r p = with_top (own ns) p
stored Kind.Port ns r p = store_all p (port_parts ns)
stored Kind.Flow ns r p = store_all p (flow_parts ns r)
stored Kind.Clocks ns r p = store_all p (clock_parts ns)
stored Kind.Format ns r p = p
stored Kind.Other ns r p = p

-- a line more, of this number
unfoldable pub added : Kind → (line : ℕ) (numbers route : List ℕ) → Draft → Draft
unfolding stored
added kind line ns r d =
    record {
      newer = is_format kind || d.newer;
      begun = not (is_format kind) || d.begun;
      guarded = is_guard kind || d.guarded;
      topped = is_top kind || d.topped;
      clocked = is_clocks kind || d.clocked;
      flowing = is_flow kind || d.flowing;
      tables = stored kind ns r d.tables;
      lines = cond (is_flow kind) (set d.lines (own ns - 1) line) d.lines;
    }

-- the first port of a route that is not in the plan with these rates; 0 where all are
unfoldable pub missing : (rates route : List ℕ) → ℕ
missing rates [] = 0
missing rates (n ∷ ns) = cond (port_in rates n) (missing rates ns) n

-- of the first n flows, the one in the lowest line that names a port which is not in the plan: its line, and that port. The port
-- is 0 where there is none.
pub record Absent : Type 0 where
  pub line : ℕ
  pub named : ℕ

abbrev pub lower : Absent → (line named : ℕ) → Absent
lower a line named =
    cond (eqb named 0) a (cond (eqb a.named 0 || ltb line a.line) (record { line = line; named = named }) a)

abbrev pub missing_of : (rates hops routes : List ℕ) → ℕ → ℕ
missing_of rates hops routes f = missing rates (sublist routes (f * route_stride) (get_or hops f 0))

unfoldable pub absent_to : ℕ → (rates hops routes lines : List ℕ) → Absent
unfolding missing sublist
absent_to zero rates hops routes lines = record { line = 0; named = 0 }
absent_to (suc n) rates hops routes lines = lower (absent_to n rates hops routes lines) (get_or lines n 0) (missing_of rates hops routes n)

abbrev pub absent_in : Draft → Absent
absent_in d = absent_to flow_slots d.tables.rates d.tables.hops d.tables.routes d.lines

-- a plan and its form, or the line, why it is refused, and what is named with it
pub data Reading : Type 0 where
  reads : (form : Form) (plan : Plan) → Reading
  rejected : (line : ℕ) (fault : Fault) (item : Item) (value : ℕ) → Reading

-- all lines are read; the line after the last has this number
unfoldable pub closing : Draft → ℕ → Reading
unfolding absent_to
closing d n =
    cond (not d.guarded) (rejected n Fault.Incomplete Item.Guard 0)
    (cond (not d.topped) (rejected n Fault.Incomplete Item.Top 0)
    (cond (not d.flowing) (rejected n Fault.Incomplete Item.Flow 0)
    (cond (not (eqb (absent_in d).named 0)) (rejected (absent_in d).line Fault.Absent Item.Route (absent_in d).named)
    (reads (form_by d.newer) d.tables))))

-- one line: refused, or what is read with it
pub data Step : Type 0 where
  stop : (fault : Fault) (item : Item) (value : ℕ) → Step
  more : Draft → Step

unfoldable pub taken : Kind → (line : ℕ) (numbers route : List ℕ) → Draft → Step
unfolding added distinct
taken kind n ns r d =
    cond (is_again kind (own ns) d) (stop Fault.Again (item_of kind) (own ns))
    (cond (not (distinct r)) (stop Fault.Twice Item.Route 0)
    (more (added kind n ns r d)))

abbrev pub step_by : (line : ℕ) → Draft → Line → Step
step_by n d nothing = more d
step_by n d (refused fault item value) = stop fault item value
step_by n d (says kind ns r) = taken kind n ns r d

unfoldable pub step_at : (line : ℕ) → Draft → List ℕ → Step
unfolding taken line_of words
step_at n d l = step_by n d (line_of (form_by d.newer) d.begun (words l))

unfoldable pub read_lines : Draft → ℕ → List (List ℕ) → Reading
unfolding step_at closing
read_lines d n [] = closing d n
read_lines d n (l ∷ ls) = elim (step_at n d l) [ stop fault item value ↦ rejected n fault item value | more e ↦ read_lines e (suc n) ls ]

-- a text of any bytes
unfoldable pub read_text : List ℕ → Reading
unfolding read_lines lines uncommented blank
read_text text = cond (leb (length text) max_text) (read_lines blank 1 (said_lines text)) (rejected 1 Fault.Size Item.First 0)
