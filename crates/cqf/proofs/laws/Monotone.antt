-- What never falls as more periods begin, and so as a duration grows: the frames of a flow and a port's demand.
use Rattle.std.specs.Prelude.{◌≡◌, refl, Bool, true, false, cond, ℕ, ◌*◌, ◌≤◌, ◌<◌}
use Rattle.std.proofs.Common.{zero-le, mul-le-mul_left, mul-le-mul_right}
use Rattle.cqf.specs.Limits.{flow_slots}
use Rattle.cqf.specs.Plan.{Plan, count_of, crosses}
use Rattle.cqf.specs.Port.{wire_bits}
use Rattle.cqf.specs.Condition.{begun, frames, demand}
use Rattle.cqf.proofs.laws.Bounded.{sum_to_le}
use Rattle.cqf.proofs.laws.Begun.{begun_mono}

-- a flow brings no more frames where it begins no more periods
pub frames_le : (p : Plan) (f T U : ℕ) → begun p f T ≤ begun p f U → frames p f T ≤ frames p f U
unfolding frames
frames_le p f T U l = mul-le-mul_left (count_of p f) l

-- a port has no more to send where no flow that crosses it begins more periods
pub demand_le
    : (p : Plan) (q T U : ℕ)
    → ((f : ℕ) → f < flow_slots → crosses p f q ≡ true → begun p f T ≤ begun p f U)
    → demand p q T ≤ demand p q U
unfolding demand
demand_le p q T U l =
    sum_to_le
    flow_slots
    (λ f. cond (crosses p f q) (frames p f T * wire_bits p f q) 0)
    (λ f. cond (crosses p f q) (frames p f U * wire_bits p f q) 0)
    (λ f slot. term f (crosses p f q) (l f slot))
  where
    term : (f : ℕ) (x : Bool) → (x ≡ true → begun p f T ≤ begun p f U) → cond x (frames p f T * wire_bits p f q) 0 ≤ cond x (frames p f U * wire_bits p f q) 0
    term f true h = mul-le-mul_right (wire_bits p f q) (frames_le p f T U (h refl))
    term f false h = zero-le

-- so it has no less to send in a longer cycle
pub demand_mono : (p : Plan) (q : ℕ) {T U : ℕ} → T ≤ U → demand p q T ≤ demand p q U
demand_mono p q {T} {U} l = demand_le p q T U (λ f _ _. begun_mono p f l)
