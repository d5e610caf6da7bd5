-- A port that leaves a frame unsent must send more than it can.
use Rattle.std.specs.Prelude.{◌≡◌, true, ℕ, ◌+◌, ◌-◌, ◌*◌, ◌/◌, ◌<◌, ltb}
use Rattle.std.proofs.Math.Bool.{and-eq-true_iff}
use Rattle.std.proofs.Common.{arith, ltb-true}
use Rattle.cqf.specs.Plan.{Plan, blocking_of, extra_of}
use Rattle.cqf.specs.Port.{ns_per_bit, blocking_bits_of, capacity}
use Rattle.cqf.specs.Run.{overrun_at}
use Rattle.emissions.specs.Unsent.{sendable}

-- on numbers: what can be sent in thousandths of a bit, what must be, and what goes before it
less_sent : (can bits first : ℕ) → 0 < bits → can < ns_per_bit * (bits + first) → can / ns_per_bit - first < bits
less_sent can bits first some more = omega arith

pub overrun_more : (p : Plan) (T r bits : ℕ) → overrun_at p T bits r ≡ true → sendable p T r < bits
unfolding overrun_at sendable capacity
overrun_more p T r bits over =
    let both = (and-eq-true_iff (ltb 0 bits) (ltb (capacity p r T) (ns_per_bit * (bits + blocking_bits_of (blocking_of p r) (extra_of p r))))).0 over in
    less_sent (capacity p r T) bits (blocking_bits_of (blocking_of p r) (extra_of p r)) (ltb-true _ _ both.0) (ltb-true _ _ both.1)
