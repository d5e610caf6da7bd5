-- The bad emission of a port that fails: each flow that crosses it emits all that it may in one cycle, so early that all of it is
-- queued at that port in one later cycle; the earliest of these bursts is in cycle 0. And the first cycle in which a frame of it is
-- left unsent, with the lowest port there. T is a cycle duration in ns, q the slot of the port that fails, f the slot of a flow.
use Rattle.std.specs.Prelude.{ℕ, suc, ◌+◌, ◌-◌, ◌*◌, ◌/◌, Bool, cond, ◌&&◌, List, map, length, get_or, eqb, ltb}
use Rattle.cqf.specs.Bounded.{sum_to, max_to, any_to, lowest, tabulate}
use Rattle.cqf.specs.Limits.{port_slots, flow_slots}
use Rattle.cqf.specs.Plan.{Plan, period_of, count_of, jitter_of, route_of, present, crosses}
use Rattle.cqf.specs.Port.{wire_bits}
use Rattle.cqf.specs.Condition.{frames}
use Rattle.cqf.specs.Emission.{Emission}
use Rattle.cqf.specs.Cycles.{Cycles}
use Rattle.cqf.specs.Run.{overrun_at}

-- where the port stands on a route, from 0 on; the route's length where it does not
abbrev pub hop_on : List ℕ → (q : ℕ) → ℕ
hop_on route q = lowest (length route) (λ i. eqb (get_or route i 0) (suc q))

-- on the route of flow f
unfoldable pub hop : Plan → (q f : ℕ) → ℕ
unfolding lowest
hop p q f = hop_on (route_of p f) q

-- the latest place at which it stands on a route
unfoldable pub latest_hop : Plan → (q : ℕ) → ℕ
unfolding hop max_to
latest_hop p q = max_to flow_slots (λ f. cond (crosses p f q) (hop p q f) 0)

-- the cycle of the burst of flow f: early by as many cycles as the port is late on its route
unfoldable pub burst_cycle : Plan → (q f : ℕ) → ℕ
unfolding hop latest_hop
burst_cycle p q f = latest_hop p q - hop p q f

-- how many frames it has: all that the flow brings at T, none of a flow that does not cross the port
unfoldable pub burst_frames : Plan → (T q f : ℕ) → ℕ
unfolding frames
burst_frames p T q f = cond (present p f && crosses p f q) (frames p f T) 0

-- the instant of its frame k: count frames in each period from a jitter before the cycle's start on, none before that start
unfoldable pub burst_instant : Plan → (T q f k : ℕ) → ℕ
unfolding burst_cycle
burst_instant p T q f k = burst_cycle p q f * T + (k / count_of p f * period_of p f - jitter_of p f)

-- the emission, and the cycle of each of its frames
unfoldable pub bad_emission : Plan → (T q : ℕ) → Emission
unfolding burst_frames burst_instant tabulate
bad_emission p T q f = tabulate (burst_frames p T q f) (burst_instant p T q f)

unfoldable pub bad_cycles : Plan → (T q : ℕ) → Cycles
unfolding bad_emission burst_cycle
bad_cycles p T q f = map (λ (t : ℕ). burst_cycle p q f) (bad_emission p T q f)

-- whether the burst of flow f is queued at the port in slot r in cycle c: at the first port of its route in the cycle after its own,
-- and one port further each cycle
unfoldable pub burst_at : Plan → (q f c r : ℕ) → Bool
unfolding burst_cycle
burst_at p q f c r =
    ltb (burst_cycle p q f) c && eqb (get_or (route_of p f) (c - suc (burst_cycle p q f)) 0) (suc r)

-- the bits that the port in slot r must send in cycle c, and whether it leaves a frame of them unsent
unfoldable pub burst_bits : Plan → (T q c r : ℕ) → ℕ
unfolding burst_frames burst_at wire_bits sum_to
burst_bits p T q c r = sum_to flow_slots (λ f. cond (burst_at p q f c r) (burst_frames p T q f) 0 * wire_bits p f r)

unfoldable pub unsent_at : Plan → (T q c r : ℕ) → Bool
unfolding burst_bits overrun_at
unsent_at p T q c r = overrun_at p T (burst_bits p T q c r) r

-- the first cycle in which some port does; where none does before, that in which all is queued at the port that fails
unfoldable pub first_unsent : Plan → (T q : ℕ) → ℕ
unfolding latest_hop unsent_at any_to lowest
first_unsent p T q = lowest (suc (latest_hop p q)) (λ c. any_to port_slots (unsent_at p T q c))

-- the slot of the lowest port that does so then
unfoldable pub unsent_slot : Plan → (T q : ℕ) → ℕ
unfolding first_unsent unsent_at lowest
unsent_slot p T q = lowest port_slots (unsent_at p T q (first_unsent p T q))
