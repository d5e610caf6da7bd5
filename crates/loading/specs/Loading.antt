-- The load's working values, as the definitions of the reading have them.
use Rattle.std.specs.Prelude.{ℕ, ◌≤◌, ◌<◌, ◌≡◌, Bool, true, false, ◌||◌, List, ltb, length, get_or, take, drop, Result, Ok, Err}
use Rattle.cqf.specs.Bounded.{any_to, every}
use Rattle.cqf.specs.Limits.{port_slots, flow_slots}
use Rattle.cqf.specs.Plan.{Plan, port_in}
use Rattle.numbers.specs.Clock.{clock_of}
use Rattle.plan.specs.Answer.{fault_number}
use Rattle.plan_reading.specs.Key.{port_keys, flow_keys, extra_keys, jitter_keys}
use Rattle.plan_reading.specs.Draft.{Draft}
use Rattle.plan_reading.specs.Reading.{PlanRead, accepted, rejected, Step, stop, more, names_absent, jitter_absent, extra_absent, first_absent, closing}
use Rattle.plan_reading.specs.Overlong.{overlong}
use Rattle.tables.specs.Columns.{plan_by}
use Rattle.tables.specs.declared.Planner.{Planner}
use Rattle.plan.specs.declared.Refusal.{Refusal}
use Rattle.loading.specs.declared.Loaded.{Loaded}
use Rattle.loading.specs.declared.first.Sought.{Sought}
use Rattle.loading.specs.declared.store.Tally.{Tally}
use Rattle.loading.specs.declared.field.Place.{Place}

-- the plan in these tables, whatever form they are said to have
abbrev pub tables_of : Planner → Plan
tables_of t =
    plan_by t.guard t.top (clock_of t.clock) t.rates t.blockings t.extras t.periods t.counts t.lengths t.jitters t.hops t.routes

-- the draft in the tables so far
abbrev pub draft_of : Planner → Tally → Draft
draft_of t y = record { tables = tables_of t; seen = y.seen; ports = y.ports; flows = y.flows }

-- one field read
abbrev pub progress_of : Result Place Refusal → Planner → Tally → Step
progress_of (Ok p) t y = more p.at p.last (draft_of t y)
progress_of (Err r) t y = stop (fault_number r.fault) r.offset

-- what is sought in a field
abbrev pub sought_in : Sought → List ℕ → ℕ → Bool
sought_in (Sought.AbsentPort rates) = names_absent rates.now
sought_in (Sought.AbsentJitterFlow periods) = jitter_absent periods.now
sought_in (Sought.AbsentExtraPort rates) = extra_absent rates.now
sought_in Sought.LongRoute = overlong

-- a whole plan read into these tables
abbrev pub answer_of : Plan → Result Loaded Refusal → PlanRead
answer_of p (Ok l) = accepted p l.ports l.flows
answer_of p (Err r) = rejected (fault_number r.fault) r.offset

-- what is above 0 in the one is above 0 in the other
abbrev pub Covers : (l m : List ℕ) → Type 0
Covers l m = (q : ℕ) → 0 < get_or l q 0 → 0 < get_or m q 0

-- no number of the one is above that of the other
abbrev pub AtMost : (l m : List ℕ) → Type 0
AtMost l m = (q : ℕ) → get_or l q 0 ≤ get_or m q 0

-- nothing is marked but what was and the ports of this route: a list that is no less than what was, and has some number for each of these
-- ports, is no less than what is
abbrev pub MarksOnly : (before after route : List ℕ) → Type 0
MarksOnly before after route = (m : List ℕ) → AtMost before m → every (port_in m) route ≡ true → AtMost after m

-- of a field that was read: the ports that were marked as named still are, and so are those of its route, and no other
pub record Marks (before after bytes : List ℕ) (at : ℕ) : Type 0 where
  pub sized : length after ≡ port_slots
  pub keeps : Covers before after
  pub routed : names_absent after bytes at ≡ false
  pub only : (m : List ℕ) → AtMost before m → names_absent m bytes at ≡ false → AtMost after m

abbrev pub Names : Result Place Refusal → (before after bytes : List ℕ) (at : ℕ) → Type 0
Names (Ok p) before after s at = Marks before after s at
Names (Err r) before after s at = Unit {0}

-- the marks of these many keys from this one on
abbrev pub marks_of : List ℕ → (key keys : ℕ) → List ℕ
marks_of seen key keys = take keys (drop key seen)

-- whether something has a mark for which there is no other
abbrev pub lacking : (marks others : List ℕ) → Bool
lacking marks others = any_to (length marks) (λ i. ltb (get_or others i 0) (get_or marks i 0))

-- whether a port that a route names, one whose extra bytes were read or a flow whose jitter was read was itself not read
abbrev pub any_absent : (named seen : List ℕ) → Bool
any_absent named seen =
    lacking named (marks_of seen port_keys port_slots)
    || (lacking (marks_of seen extra_keys port_slots) (marks_of seen port_keys port_slots)
    || lacking (marks_of seen jitter_keys flow_slots) (marks_of seen flow_keys flow_slots))

-- the answer of the tests 8 and 9, where test 9 finds a field exactly if something is absent
abbrev pub ClosesWith : (bytes : List ℕ) → Planner → Tally → Result Loaded Refusal → Type 0
ClosesWith bytes t y answer =
    any_absent y.named y.seen ≡ ltb (first_absent t.rates t.periods bytes) (length bytes) → answer_of (tables_of t) answer ≡ closing bytes (draft_of t y)
