-- What the search for the first unsent frame works out, flow by flow. No promise of a public function cites this file.
use Rattle.std.specs.Prelude.{ℕ, suc, ◌-◌, ◌*◌, cond, ◌&&◌, List, get_or, eqb, ltb}
use Rattle.cqf.specs.Bounded.{elem}
use Rattle.cqf.specs.Plan.{Plan, extra_of, period_of, count_of, length_of, jitter_of, route_of}
use Rattle.cqf.specs.Port.{bits_of}
use Rattle.cqf.specs.Condition.{frames_by}
use Rattle.emissions.specs.BadEmission.{hop_on}

-- the number of the port at which the burst of a flow over this route is queued in cycle c, 0 for none; latest is the latest place at
-- which the port in slot q stands on a route
abbrev pub queued_port : (route : List ℕ) (q latest c : ℕ) → ℕ
queued_port route q latest c =
    cond (elem (suc q) route && ltb (latest - hop_on route q) c) (get_or route (c - suc (latest - hop_on route q)) 0) 0

-- the wire bits of the frames of flow f at the port in slot r, which are counted over so many ns
abbrev pub flow_bits : Plan → (over f r : ℕ) → ℕ
flow_bits p over f r = frames_by (count_of p f) over (jitter_of p f) (period_of p f) * bits_of (length_of p f) (extra_of p r)

-- those of them that the port must send in cycle c
abbrev pub queued_flow : Plan → (over q latest c r f : ℕ) → ℕ
queued_flow p over q latest c r f = cond (eqb (queued_port (route_of p f) q latest c) (suc r)) (flow_bits p over f r) 0
