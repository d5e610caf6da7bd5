-- A bound of the iteration's length: in every step but the first and the last some flow begins one more period than in the step before.
use Rattle.std.specs.Prelude.{◌≡◌, Bool, true, false}
use Rattle.std.proofs.Math.Path.{refl, ap}
use mathlib.Core.List.{[], ◌∷◌}
use Prim.Native.Nat.{ℕ, zero, suc, ◌+◌, ◌-◌, ◌≤◌, ◌<◌}
use Rattle.std.proofs.Common.{le_antisymm}
use Rattle.std.proofs.Math.Decide.{dec_lt}
use native.Mathlib.Omega.{arith}
use Rattle.std.proofs.Math.ListN.{length}
use Rattle.cqf.specs.Bounded.{sum_to}
use Rattle.cqf.specs.Limits.{port_slots, flow_slots}
use Rattle.cqf.specs.Plan.{Plan, rate_of, blocking_of, extra_of, present, crosses, valid_plan}
use Rattle.cqf.specs.Condition.{begun, demand}
use Rattle.cqf.specs.Need.{need_by, need, largest_need}
use Rattle.cqf.specs.FixedPoint.{visited_in, visited, steps_from, later, most_steps}
use Rattle.cqf.proofs.laws.Bounded.{sum_to_le, sum_to_equal}
use Rattle.cqf.proofs.laws.Bounds.{max_to_same}
use Rattle.cqf.proofs.laws.Valid.{held_period, held_present, crosses_held}
use Rattle.cqf.proofs.laws.Begun.{begun_positive, begun_mono}
use Rattle.cqf.proofs.laws.Monotone.{demand_le, demand_mono}
use Rattle.cqf.proofs.laws.FixedPoint.{StepCase, settled, over, rises, step_at, visited_settled, visited-over, visited_rises}

-- the periods after the first, of all flows
abbrev laters : Plan → ℕ → ℕ
laters p t = sum_to flow_slots (λ f. later p f t)

module _ (p : Plan) where
  -- of a flow that is present they are those that begin but one
  later-begun : (f t : ℕ) → present p f ≡ true → later p f t ≡ begun p f t - 1
  unfolding later begun
  later-begun f t e = rw e

  later_absent : (f t : ℕ) → present p f ≡ false → later p f t ≡ 0
  unfolding later
  later_absent f t e = rw e

  later_mono : (f : ℕ) {t u : ℕ} → t ≤ u → later p f t ≤ later p f u
  later_mono f {t} {u} l = go (present p f) refl
    where
      go : (x : Bool) → present p f ≡ x → later p f t ≤ later p f u
      go true e = omega (arith, later-begun f t e, later-begun f u e, begun_mono p f l)
      go false e = omega (arith, later_absent f t e, later_absent f u e)

  laters_mono : {t u : ℕ} → t ≤ u → laters p t ≤ laters p u
  laters_mono {t} {u} l = sum_to_le flow_slots (λ f. later p f t) (λ f. later p f u) (λ f _. later_mono f l)

  module _ (valid : valid_plan p ≡ true) where
    -- where no flow begins one more, the largest need is the same
    module _ {t u : ℕ} (long : 0 < t) (l : t ≤ u) (most : laters p u ≤ laters p t) where
      same_begun : (f q : ℕ) → f < flow_slots → crosses p f q ≡ true → begun p f u ≤ begun p f t
      same_begun f q slot c =
          let flow = crosses_held p valid f q slot c in
          let e = held_present p f slot flow in
          let same = sum_to_equal flow_slots (λ f. later p f t) (λ f. later p f u) (λ f _. later_mono f l) most f slot in
          omega (arith, same, later-begun f t e, later-begun f u e, begun_positive p f long (held_period p f flow))

      same_demand : (q : ℕ) → demand p q t ≡ demand p q u
      same_demand q = le_antisymm (demand_mono p q l) (demand_le p q u t (λ f. same_begun f q))

      same_need : (q : ℕ) → need p q t ≡ need p q u
      unfolding need
      same_need q = ap (need_by p.guard (rate_of p q) (blocking_of p q) (extra_of p q)) (same_demand q)

      same_largest : largest_need p t ≡ largest_need p u
      unfolding largest_need
      same_largest = max_to_same port_slots (λ q. need p q t) (λ q. need p q u) (λ q _. same_need q)

    -- after a step that rose, one that is to rise again has a flow that begins one more
    one_more : {t u : ℕ} → 0 < t → t < u → u ≡ largest_need p t → u < largest_need p u → laters p t < laters p u
    one_more {t} {u} long l e less = go (dec_lt (laters p t) (laters p u))
      where
        go : Dec (laters p t < laters p u) → laters p t < laters p u
        go (yes more) = more
        go (no most) = absurd (omega (arith, e, less, same_largest {u = u} long (omega (arith, l)) (omega arith)))

    -- the steps after one that rose
    after-rising : (m : ℕ) {t u : ℕ} → 0 < t → t < u → u ≡ largest_need p t → u ≤ p.top → length (visited_in p m u) + laters p t ≤ suc (laters p p.top)
    unfolding visited_in
    after-rising zero {t} {u} long l e within = omega (arith, laters_mono {t = t} {u = p.top} (omega arith))
    after-rising (suc m) {t} {u} long l e within = go (after-rising m {t = u} {u = largest_need p u} (omega arith)) (step_at p u)
      where
        last : visited_in p (suc m) u ≡ u ∷ [] → length (visited_in p (suc m) u) + laters p t ≤ suc (laters p p.top)
        last d = omega (arith, ap length d, laters_mono {t = t} {u = p.top} (omega arith))

        go
            : (u < largest_need p u
            → largest_need p u ≡ largest_need p u
            → largest_need p u ≤ p.top
            → length (visited_in p m (largest_need p u)) + laters p u ≤ suc (laters p p.top))
            → StepCase p u
            → length (visited_in p (suc m) u) + laters p t ≤ suc (laters p p.top)
        go more (settled d _) = last (visited_settled p m u d)
        go more (over d h _ _) = last (visited-over p m u d h)
        go more (rises d h less upto) =
            omega (arith, ap length (visited_rises p m u d h), more less refl upto, one_more long l e less)

    -- from any start
    steps_in : (m t : ℕ) → 0 < t → length (visited_in p m t) ≤ 2 + laters p p.top
    unfolding visited_in
    steps_in zero t long = omega arith
    steps_in (suc m) t long = go (step_at p t)
      where
        go : StepCase p t → length (visited_in p (suc m) t) ≤ 2 + laters p p.top
        go (settled d _) = omega (arith, ap length (visited_settled p m t d))
        go (over d h _ _) = omega (arith, ap length (visited-over p m t d h))
        go (rises d h less upto) =
            omega (arith, ap length (visited_rises p m t d h), after-rising m long less refl upto)

    pub most_steps_lem : (t : ℕ) → 0 < t → steps_from p t ≤ most_steps p
    unfolding steps_from visited most_steps
    most_steps_lem t long = steps_in p.top t long
