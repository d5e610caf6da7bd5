-- Tidy tables. A flow has 24 places in the table of routes, and its route takes as many of them as it has hops; the tables are
-- tidy where each place past the hops is 0. What a reading leaves is tidy.
use Rattle.std.specs.Prelude.{ℕ, ◌+◌, ◌*◌, ◌/◌, ◌%◌, ◌≤◌, ◌<◌, ◌≡◌, cond, ltb, get_or}
use Rattle.cqf.specs.Bounded.{tabulate}
use Rattle.cqf.specs.Limits.{flow_slots, route_stride}
use Rattle.cqf.specs.Plan.{Plan, hops_of}

-- place i of the flow in slot f is 0 where the flow has at most i hops; a slot without a flow has none
abbrev pub Tidy : Plan → Type 0
Tidy p = (f i : ℕ) → f < flow_slots → hops_of p f ≤ i → i < route_stride → get_or p.routes (f * route_stride + i) 0 ≡ 0

-- position j of the table of routes: place j % route_stride of the flow in slot j / route_stride
abbrev pub tidied_at : Plan → ℕ → ℕ
tidied_at p j = cond (ltb (j % route_stride) (hops_of p (j / route_stride))) (get_or p.routes j 0) 0

-- the plan with 0 in each place past the hops
unfoldable pub tidied : Plan → Plan
tidied p =
    record {
      guard = p.guard;
      top = p.top;
      clock = p.clock;
      rates = p.rates;
      blockings = p.blockings;
      extras = p.extras;
      periods = p.periods;
      counts = p.counts;
      lengths = p.lengths;
      jitters = p.jitters;
      hops = p.hops;
      routes = tabulate (flow_slots * route_stride) (tidied_at p);
    }
