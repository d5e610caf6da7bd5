-- A lighter plan (document 02: an easier plan). It has the top and the ports of another, and each of its flows is a flow of that
-- one with the same number and the same route. Beyond that each of its numbers may be easier, any of them, all at once or none.
use Rattle.std.specs.Prelude.{◌≡◌, true, ℕ, ◌≤◌, ◌<◌, ltb}
use Rattle.cqf.specs.Limits.{port_slots}
use Rattle.cqf.specs.Plan.{Plan, rate_of, blocking_of, extra_of, period_of, count_of, length_of, jitter_of, route_of, present}

-- the port in slot q: in both plans or in neither; as fast or faster; a blocking frame no longer, where none has length 0; no more
-- extra bytes
pub record LighterPort (second first : Plan) (q : ℕ) : Type 0 where
  pub held : ltb 0 (rate_of second q) ≡ ltb 0 (rate_of first q)
  pub rate : rate_of first q ≤ rate_of second q
  pub blocking : blocking_of second q ≤ blocking_of first q
  pub extra : extra_of second q ≤ extra_of first q

-- the flow in slot f of the second plan: in the first too; the same route; frames no longer and no more of them in a period; the
-- period no shorter; no more jitter
pub record LighterFlow (second first : Plan) (f : ℕ) : Type 0 where
  pub held : present first f ≡ true
  pub route : route_of second f ≡ route_of first f
  pub bytes : length_of second f ≤ length_of first f
  pub count : count_of second f ≤ count_of first f
  pub period : period_of first f ≤ period_of second f
  pub jitter : jitter_of second f ≤ jitter_of first f

-- the second plan is lighter than the first: the same top; a guard band and clock numbers that are no larger; every port; every flow
-- that it has
pub record Lighter (second first : Plan) : Type 0 where
  pub top : second.top ≡ first.top
  pub guard : second.guard ≤ first.guard
  pub drift : second.clock.drift ≤ first.clock.drift
  pub timing_jitter_of : second.clock.timing_jitter_of ≤ first.clock.timing_jitter_of
  pub sync_error_of : second.clock.sync_error_of ≤ first.clock.sync_error_of
  pub ports : (q : ℕ) → q < port_slots → LighterPort second first q
  pub flows : (f : ℕ) → present second f ≡ true → LighterFlow second first f
