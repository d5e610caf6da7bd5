-- A plan as its two tables of fixed size: port n in slot n - 1 of 64, flow n in slot n - 1 of 256. An absent port has rate 0,
-- an absent flow period 0, and the plan that holds nothing top 0. The route of the flow in slot f stands at f * route_stride.
use Rattle.std.specs.Prelude.{ℕ, suc, ◌*◌, List, ◌∷◌, Bool, ◌&&◌, ◌||◌, get_or, replicate, eqb, ltb}
use Rattle.cqf.specs.Bounded.{any_to, all_to, elem, distinct, every, sublist}
use Rattle.cqf.specs.Limits.{port_slots, flow_slots, route_stride, guard_ok, top_ok, drift_ok, timing_jitter_ok, sync_error_ok, port_ok, rate_ok, length_ok, blocking_ok, extra_ok, period_ok, count_ok, jitter_ok, hops_ok}

-- how far the clocks of sources and ports differ (document 02): drift in parts per million, timing jitter and synchronization
-- error in ns
pub record Clock : Type 0 where
  pub drift : ℕ
  pub timing_jitter_of : ℕ
  pub sync_error_of : ℕ

pub record Plan : Type 0 where
  pub guard : ℕ
  pub top : ℕ
  pub clock : Clock
  pub rates : List ℕ
  pub blockings : List ℕ
  pub extras : List ℕ
  pub periods : List ℕ
  pub counts : List ℕ
  pub lengths : List ℕ
  pub jitters : List ℕ
  pub hops : List ℕ
  pub routes : List ℕ

-- clocks that are taken as equal
abbrev pub equal_clocks : Clock
equal_clocks = record { drift = 0; timing_jitter_of = 0; sync_error_of = 0 }

-- the plan that holds nothing
unfoldable pub no_plan : Plan
no_plan =
    record {
      guard = 0;
      top = 0;
      clock = equal_clocks;
      rates = replicate port_slots 0;
      blockings = replicate port_slots 0;
      extras = replicate port_slots 0;
      periods = replicate flow_slots 0;
      counts = replicate flow_slots 0;
      lengths = replicate flow_slots 0;
      jitters = replicate flow_slots 0;
      hops = replicate flow_slots 0;
      routes = replicate (flow_slots * route_stride) 0;
    }

-- whether the clocks of sources and ports are taken as equal: all three of their numbers are 0
abbrev pub clocks_equal : Plan → Bool
clocks_equal p = eqb p.clock.drift 0 && eqb p.clock.timing_jitter_of 0 && eqb p.clock.sync_error_of 0

-- the numbers of the port in slot q
abbrev pub rate_of : Plan → ℕ → ℕ
rate_of p q = get_or p.rates q 0

abbrev pub blocking_of : Plan → ℕ → ℕ
blocking_of p q = get_or p.blockings q 0

-- the bytes that it adds to each frame
abbrev pub extra_of : Plan → ℕ → ℕ
extra_of p q = get_or p.extras q 0

-- the numbers of the flow in slot f
abbrev pub period_of : Plan → ℕ → ℕ
period_of p f = get_or p.periods f 0

abbrev pub count_of : Plan → ℕ → ℕ
count_of p f = get_or p.counts f 0

abbrev pub length_of : Plan → ℕ → ℕ
length_of p f = get_or p.lengths f 0

-- the most ns that its frames are released after their nominal instants
abbrev pub jitter_of : Plan → ℕ → ℕ
jitter_of p f = get_or p.jitters f 0

abbrev pub hops_of : Plan → ℕ → ℕ
hops_of p f = get_or p.hops f 0

-- its route: port numbers, in the order in which a frame meets them
abbrev pub route_of : Plan → ℕ → List ℕ
route_of p f = sublist p.routes (f * route_stride) (hops_of p f)

-- whether slot f holds a flow
abbrev pub present : Plan → ℕ → Bool
present p f = ltb f flow_slots && ltb 0 (period_of p f)

-- whether the route of flow f holds the port in slot q
abbrev pub crosses : Plan → ℕ → ℕ → Bool
crosses p f q = elem (suc q) (route_of p f)

-- whether a port of number n is in the plan: its rate is not 0
abbrev pub port_in : List ℕ → ℕ → Bool
port_in rates n = port_ok n && ltb 0 (get_or (0 ∷ rates) n 0)

-- whether slot q is empty, or holds a port in range
unfoldable pub valid_port : Plan → ℕ → Bool
valid_port p q =
    (eqb (rate_of p q) 0 && eqb (blocking_of p q) 0 && eqb (extra_of p q) 0)
    || (rate_ok (rate_of p q) && blocking_ok (blocking_of p q) && extra_ok (extra_of p q))

-- whether slot f is empty, or holds a flow in range over distinct ports of the plan
unfoldable pub valid_flow : Plan → ℕ → Bool
valid_flow p f =
    (eqb (period_of p f) 0 && eqb (count_of p f) 0 && eqb (length_of p f) 0 && eqb (jitter_of p f) 0 && eqb (hops_of p f) 0)
    || (period_ok (period_of p f)
    && count_ok (count_of p f)
    && length_ok (length_of p f)
    && jitter_ok (jitter_of p f)
    && hops_ok (hops_of p f)
    && every (port_in p.rates) (route_of p f)
    && distinct (route_of p f))

-- whether the numbers of the clocks are in range
abbrev pub clock_ok : Clock → Bool
clock_ok k = drift_ok k.drift && timing_jitter_ok k.timing_jitter_of && sync_error_ok k.sync_error_of

-- whether the tables hold a plan that the rules accept: what every accepted plan is, and what the questions test first
unfoldable pub valid_plan : Plan → Bool
unfolding valid_port valid_flow
valid_plan p =
    top_ok p.top
    && guard_ok p.guard
    && clock_ok p.clock
    && all_to port_slots (valid_port p)
    && all_to flow_slots (valid_flow p)
    && any_to flow_slots (present p)
