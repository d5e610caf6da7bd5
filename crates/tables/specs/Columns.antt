-- What a function reads and asks which is lent columns of the tables and not the whole planner.
use Rattle.std.specs.Prelude.{◌≡◌, List, true, cond, ℕ, suc, ◌+◌, ◌*◌, ◌≤◌, ◌<◌, get_or}
use Rattle.cqf.specs.Bounded.{elem, distinct, every, sublist}
use Rattle.cqf.specs.Limits.{port_slots, flow_slots, max_hops, route_stride, port_ok, min_period, max_period, max_count, max_length, max_jitter, max_extra}
use Rattle.cqf.specs.Plan.{Clock, Plan}

-- the plan of these tables
abbrev pub plan_by : (guard top : ℕ) (clock : Clock) (rates blockings extras periods counts lengths jitters hops routes : List ℕ) → Plan
plan_by guard top clock rates blockings extras periods counts lengths jitters hops routes =
    record {
      guard = guard;
      top = top;
      clock = clock;
      rates = rates;
      blockings = blockings;
      extras = extras;
      periods = periods;
      counts = counts;
      lengths = lengths;
      jitters = jitters;
      hops = hops;
      routes = routes;
    }

-- the same where guard and top are not given; a column that the function is not lent is empty, clocks that it is not given are equal
abbrev pub columns : (clock : Clock) (rates blockings extras periods counts lengths jitters hops routes : List ℕ) → Plan
columns = plan_by 0 0

-- a flow's slot that is empty or in range, over distinct ports; whether the ports are in the plan does not matter here
pub record FlowInRange (period count bytes jitter hops : ℕ) (route : List ℕ) : Type 0 where
  pub absent : period ≡ 0 → hops ≡ 0
  pub period_least : (period ≡ 0 → ⊥) → min_period ≤ period
  pub period_most : period ≤ max_period
  pub count_most : count ≤ max_count
  pub bytes_most : bytes ≤ max_length
  pub jitter_most : jitter ≤ max_jitter
  pub hops_most : hops ≤ max_hops
  pub ports : every port_ok route ≡ true
  pub once : distinct route ≡ true

pub record FlowsInRange (periods counts lengths jitters hops routes : List ℕ) : Type 0 where
  pub slot
      : (f : ℕ)
      → f < flow_slots
      → FlowInRange (get_or periods f 0) (get_or counts f 0) (get_or lengths f 0) (get_or jitters f 0) (get_or hops f 0) (sublist routes (f * route_stride) (get_or hops f 0))

-- ports that add no more than the most extra bytes to each frame
abbrev pub ExtrasInRange : List ℕ → Type 0
ExtrasInRange extras = (q : ℕ) → q < port_slots → get_or extras q 0 ≤ max_extra

-- a table l that has v q more than l₀ in the slot q of each port of r, and as much elsewhere
abbrev pub Marked : (l₀ l r : List ℕ) → (ℕ → ℕ) → Type 0
Marked l₀ l r v = (q : ℕ) → q < port_slots → get_or l q 0 ≡ get_or l₀ q 0 + cond (elem (suc q) r) (v q) 0
