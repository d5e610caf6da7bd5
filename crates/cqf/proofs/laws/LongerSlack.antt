-- What a longer duration does to a slack: it rises at most by what the port sends in the ns added, and falls at most by the bits
-- that its flows can bring in them.
use Rattle.std.specs.Prelude.{◌≡◌, refl, Bool, true, false, cond, ℕ, zero, suc, ◌+◌, ◌-◌, ◌*◌, ◌≤◌, ◌<◌, pos, ◌+ℤ◌, ◌≤ℤ◌}
use Rattle.std.proofs.Common.{zero-le, add-mul, mul_comm, mul_assoc, mul-le-mul_right}
use Rattle.std.proofs.Math.Nat.{mul-add, le_trans, mul-le-mul_left}
use native.Mathlib.Omega.{arith}
use Rattle.cqf.specs.Bounded.{sum_to}
use Rattle.cqf.specs.Limits.{flow_slots, million}
use Rattle.cqf.specs.Plan.{Plan, rate_of, period_of, count_of, jitter_of, crosses, valid_plan}
use Rattle.cqf.specs.Ceil.{ceil_div}
use Rattle.cqf.specs.Port.{wire_bits, window, capacity, workload}
use Rattle.cqf.specs.Widened.{widened}
use Rattle.cqf.specs.Condition.{begun, frames, demand, slack}
use Rattle.cqf.specs.Reprice.{length_growth, demand_growth}
use Rattle.cqf.proofs.laws.Ceil.{ceil_covers, ceil_least, ceil_mono}
use Rattle.cqf.proofs.laws.Monotone.{demand_mono}
use Rattle.cqf.proofs.laws.Condition.{workload_mono}
use Rattle.cqf.proofs.laws.Demand.{share, demand_sum}
use Rattle.cqf.proofs.laws.Valid.{crosses_held, held_period}
use Rattle.cqf.proofs.laws.Differences.{sub_more, sub_le}
use Rattle.cqf.proofs.laws.Repriced.{slack_is, workload_more}

-- the quotient of a sum rounded up is at most the sum of the quotients
ceil_add : (T U : ℕ) {P : ℕ} → 0 < P → ceil_div (T + U) P ≤ ceil_div T P + ceil_div U P
ceil_add T U {P} h =
    ceil_least (T + U) (ceil_div T P + ceil_div U P) h
    (omega (arith, ceil_covers T h, ceil_covers U h, add-mul (ceil_div T P) (ceil_div U P) P))

-- where each term is at most the sum of two others, so is their sum
sum_to_add
    : (n : ℕ) (g h k : ℕ → ℕ)
    → ((i : ℕ) → i < n → g i ≤ h i + k i)
    → sum_to n g ≤ sum_to n h + sum_to n k
unfolding sum_to
sum_to_add zero g h k le = zero-le
sum_to_add (suc n) g h k le = omega (arith, sum_to_add n g h k (λ i l. le i (omega arith)), le n (omega arith))

-- what a port can send in a longer cycle
capacity_more : (p : Plan) (q T d : ℕ) → capacity p q (T + d) ≤ capacity p q T + rate_of p q * d
unfolding capacity window
capacity_more p q T d =
    le_trans (mul-le-mul_left {m = T + d - 2 * p.guard} {n = T - 2 * p.guard + d} (rate_of p q) (omega arith))
    (omega (arith, mul-add (rate_of p q) (T - 2 * p.guard) d))

capacity_mono : (p : Plan) (q T d : ℕ) → capacity p q T ≤ capacity p q (T + d)
unfolding capacity window
capacity_mono p q T d = mul-le-mul_left (rate_of p q) (omega arith)

module _ (p : Plan) (T d : ℕ) where
  -- the length over which frames are counted
  widened_more : widened p (T + d) ≤ widened p T + length_growth p d
  unfolding widened
  widened_more =
      let k = p.clock.drift in
      let sum : ceil_div ((T + d) * k) million ≤ ceil_div (T * k) million + ceil_div (d * k) million =
      rw (add-mul T d k) (ceil_add (T * k) (d * k) {P = million} (omega arith)) in
      omega arith

  -- the periods that begin in it, and the frames
  begun_more : (f : ℕ) → 0 < period_of p f → begun p f (T + d) ≤ begun p f T + ceil_div (length_growth p d) (period_of p f)
  unfolding begun
  begun_more f some =
      le_trans
      (ceil_mono (period_of p f) {T = widened p (T + d) + jitter_of p f} {U = widened p T + jitter_of p f + length_growth p d} (omega (arith, widened_more)))
      (ceil_add (widened p T + jitter_of p f) (length_growth p d) some)

  frames_more : (f : ℕ) → 0 < period_of p f → frames p f (T + d) ≤ frames p f T + count_of p f * ceil_div (length_growth p d) (period_of p f)
  unfolding frames
  frames_more f some =
      omega (arith, mul-le-mul_left (count_of p f) (begun_more f some), mul-add (count_of p f) (begun p f T) (ceil_div (length_growth p d) (period_of p f)))

  module _ (valid : valid_plan p ≡ true) (q : ℕ) where
    -- what a flow brings to a port
    share_more
        : (f : ℕ)
        → f < flow_slots
        → share p q (T + d) f
        ≤ share p q T f + cond (crosses p f q) (wire_bits p f q * count_of p f * ceil_div (length_growth p d) (period_of p f)) 0
    share_more f slot = go (crosses p f q) refl
      where
        go
            : (b : Bool)
            → crosses p f q ≡ b
            → cond b (frames p f (T + d) * wire_bits p f q) 0
            ≤ cond b (frames p f T * wire_bits p f q) 0 + cond b (wire_bits p f q * count_of p f * ceil_div (length_growth p d) (period_of p f)) 0
        go true e =
            let some = held_period p f (crosses_held p valid f q slot e) in
            let w = wire_bits p f q in
            let more = count_of p f * ceil_div (length_growth p d) (period_of p f) in
            le_trans (mul-le-mul_right w (frames_more f some))
            (omega (arith, add-mul (frames p f T) more w, mul_comm more w, mul_assoc w (count_of p f) (ceil_div (length_growth p d) (period_of p f))))
        go false e = zero-le

    -- so a port's demand grows no more
    pub demand_more : demand p q (T + d) ≤ demand p q T + demand_growth p q d
    unfolding demand_growth
    demand_more = rw (demand_sum p q (T + d), demand_sum p q T) (sum_to_add flow_slots (share p q (T + d)) (share p q T) _ share_more)

    pub slack_rises : slack p q (T + d) ≤ℤ (slack p q T +ℤ pos (rate_of p q * d))
    slack_rises =
        rw (slack_is p q (T + d), slack_is p q T, sub_more (capacity p q T) (workload p q (demand p q T)) (rate_of p q * d))
        (sub_le (capacity p q (T + d)) (workload p q (demand p q (T + d))) (capacity p q T + rate_of p q * d) (workload p q (demand p q T))
        (omega (arith, capacity_more p q T d, workload_mono p q (demand_mono p q {T = T} {U = T + d} (omega arith)))))

    pub slack_falls : slack p q T ≤ℤ (slack p q (T + d) +ℤ pos (1000 * demand_growth p q d))
    slack_falls =
        rw (slack_is p q T, slack_is p q (T + d), sub_more (capacity p q (T + d)) (workload p q (demand p q (T + d))) (1000 * demand_growth p q d))
        (sub_le (capacity p q T) (workload p q (demand p q T)) (capacity p q (T + d) + 1000 * demand_growth p q d) (workload p q (demand p q (T + d)))
        (omega (arith, capacity_mono p q T d, workload_mono p q demand_more, workload_more p q (demand p q T) (demand_growth p q d))))
