-- Laws of the length over which frames are counted and of the periods that begin in it. What follows of the condition, of
-- emissions and of the searches rests on these and not on how the two are defined.
use Rattle.std.specs.Prelude.{◌≡◌, true, ℕ, ◌+◌, ◌-◌, ◌*◌, ◌≤◌, ◌<◌}
use Rattle.std.proofs.Math.Bool.{and-eq-true_iff}
use Rattle.std.proofs.Common.{le_trans, add-le-add, mul-le-mul, mul-le-mul_left, mul-le-mul_right}
use native.Mathlib.Omega.{arith}
use borrow.Author.Tests.{eqb-true}
use Rattle.cqf.specs.Limits.{max_top, max_drift, max_timing_jitter, max_jitter, min_period, million}
use Rattle.cqf.specs.Overflow.{most_widened, most_begun}
use Rattle.cqf.specs.Plan.{Clock, Plan, period_of, jitter_of, clocks_equal}
use Rattle.cqf.specs.Widened.{widened_by, widened}
use Rattle.cqf.specs.Condition.{begun_by, begun}
use Rattle.cqf.proofs.laws.Ceil.{ceil_covers, ceil_before, ceil_least, ceil_positive, ceil_mono, ceil_shorter}

module _ (p : Plan) where
  -- the length is at least the duration, and never falls as that grows
  pub widened_covers : (T : ℕ) → T ≤ widened p T
  unfolding widened
  widened_covers T = omega arith

  pub widened_mono : {T U : ℕ} → T ≤ U → widened p T ≤ widened p U
  unfolding widened
  widened_mono l = omega (arith, l, ceil_mono million (mul-le-mul_right p.clock.drift l))

  -- where clocks are taken as equal it is the duration
  pub widened-aligned : clocks_equal p ≡ true → (T : ℕ) → widened p T ≡ T
  unfolding widened
  widened-aligned same T =
      let h = simp and-eq-true_iff at same in
      omega (arith, eqb-true p.clock.sync_error_of 0 h.1)

  module _ (f : ℕ) where
    -- so many periods last at least that length with the jitter
    pub begun_covers : (T : ℕ) → 0 < period_of p f → widened p T + jitter_of p f ≤ begun p f T * period_of p f
    unfolding begun
    begun_covers T = ceil_covers (widened p T + jitter_of p f)

    -- fewer periods end before it does
    pub begun-before : (T m : ℕ) → 0 < period_of p f → m < begun p f T → m * period_of p f < widened p T + jitter_of p f
    unfolding begun
    begun-before T m = ceil_before (widened p T + jitter_of p f) m

    -- one period at least
    pub begun_positive : {T : ℕ} → 0 < T → 0 < period_of p f → 0 < begun p f T
    unfolding begun
    begun_positive {T} long = ceil_positive (omega (arith, long, widened_covers T))

    -- no fewer in a longer cycle
    pub begun_mono : {T U : ℕ} → T ≤ U → begun p f T ≤ begun p f U
    unfolding begun
    begun_mono l = ceil_mono (period_of p f) (omega (arith, widened_mono l))

-- no longer than the longest duration with the largest drift and timing jitter
pub widened_most
    : (k : Clock) (T : ℕ)
    → T ≤ max_top
    → k.drift ≤ max_drift
    → k.timing_jitter_of ≤ max_timing_jitter
    → widened_by k T ≤ most_widened
widened_most k T l d t =
    let far = ceil_least (T * k.drift) (most_widened - max_top - max_timing_jitter) {P = million} (omega arith) (le_trans (mul-le-mul l d) (omega arith)) in
    omega (arith, far)

-- no more than the shortest periods in the longest stretch with the largest jitter
pub begun_most : (L J : ℕ) {P : ℕ} → L ≤ most_widened → J ≤ max_jitter → min_period ≤ P → begun_by L J P ≤ most_begun
begun_most L J {P} l j h =
    ceil_least (L + J) most_begun (omega arith) (le_trans (add-le-add l j) (mul-le-mul_left most_begun h))

-- clocks that differ less make the length no longer
pub widened_clocks
    : {j k : Clock} (T : ℕ)
    → j.drift ≤ k.drift
    → j.timing_jitter_of ≤ k.timing_jitter_of
    → j.sync_error_of ≤ k.sync_error_of
    → widened_by j T ≤ widened_by k T
widened_clocks {j} {k} T d t s = omega (arith, ceil_mono million (mul-le-mul_left T d))

-- no more periods begin in a shorter length, with less jitter before it, where they are longer
pub begun_easier : {L M J K P Q : ℕ} → L ≤ M → J ≤ K → 0 < Q → Q ≤ P → begun_by L J P ≤ begun_by M K Q
begun_easier {L} {M} {J} {K} {P} {Q} l j some h =
    le_trans (ceil_shorter (L + J) some h) (ceil_mono Q (add-le-add l j))
