-- The least duration from a start on: admissible, with none from the start to below it that is, or one above top.
use Rattle.std.specs.Prelude.{◌≡◌, Bool, false, ◌&&◌, ℕ, suc, ◌≤◌, ◌<◌, leb}
use Rattle.std.proofs.Math.Path.{refl}
use Rattle.std.proofs.Common.{sym, ◌∙◌, le_refl, arith}
use Rattle.std.proofs.Math.Bool.{true, false≢true, and-eq-true_iff}
use mathlib.Mathlib.Data.Bool.Basic.{eq-false_of_not-eq-true}
use Rattle.std.proofs.Math.Decide.{dec_le}
use borrow.Author.Tests.{le-leb, leb-true}
use Rattle.cqf.specs.Plan.{Plan}
use Rattle.cqf.specs.Condition.{admissible, smallest, least}
use Rattle.cqf.specs.Need.{least_from}
use Rattle.cqf.specs.FixedPoint.{LeastAdmissible}
use Rattle.cqf.proofs.laws.Smallest.{smallest_positive, smallest_le, smallest-passes, smallest_below, smallest_is, smallest-none, least_of}

module _ (p : Plan) (d : ℕ) where
  from_test : ℕ → Bool
  from_test u = leb d u && admissible p u

  least_from_of : least_from p d ≡ smallest from_test p.top
  unfolding least_from from_test
  least_from_of = refl

  -- the test fails below d, and where a duration is not admissible
  from_fails : (u : ℕ) → (d ≤ u → admissible p u ≡ false) → from_test u ≡ false
  unfolding from_test
  from_fails u h = eq-false_of_not-eq-true λ e.
      let t = (and-eq-true_iff (leb d u) (admissible p u)).0 e in
      false≢true (sym (h (leb-true d u t.0)) ∙ t.1)

  pub least_from_is
      : (T : ℕ)
      → 1 ≤ d
      → d ≤ T
      → T ≤ p.top
      → admissible p T ≡ true
      → ((u : ℕ) → d ≤ u → u < T → admissible p u ≡ false)
      → least_from p d ≡ T
  unfolding from_test
  least_from_is T h from l e none =
      least_from_of
      ∙ smallest_is from_test p.top T (omega arith) l ((and-eq-true_iff _ _).1 (le-leb d T from, e)) (λ u _ less. from_fails u (λ k. none u k less))

  pub least_from_none : ((u : ℕ) → d ≤ u → u ≤ p.top → admissible p u ≡ false) → least_from p d ≡ suc p.top
  least_from_none none =
      least_from_of ∙ smallest-none from_test p.top (λ u _ l. from_fails u (λ k. none u k l))

  -- below it there is none from d on
  least_from_below : 1 ≤ d → (v : ℕ) → d ≤ v → v < least_from p d → admissible p v ≡ false
  unfolding from_test
  least_from_below h v from less =
      eq-false_of_not-eq-true λ e. false≢true
      (sym (smallest_below from_test p.top v (omega arith) (omega (arith, least_from_of)))
      ∙ (and-eq-true_iff _ _).1 (le-leb d v from, e))

  -- so where it is above top there is none
  pub least_from_above : 1 ≤ d → p.top < least_from p d → (u : ℕ) → d ≤ u → u ≤ p.top → admissible p u ≡ false
  least_from_above h above u from l = least_from_below h u from (omega arith)

  -- where it is up to top it is the least admissible duration from d on, and the only one
  pub least_from_admissible : 1 ≤ d → least_from p d ≤ p.top → LeastAdmissible p d (least_from p d)
  unfolding from_test
  least_from_admissible h upto =
      let e = least_from_of in
      let passed : from_test (least_from p d) ≡ true = rw e (smallest-passes from_test p.top (omega (arith, e, upto))) in
      let both = (and-eq-true_iff (leb d (least_from p d)) (admissible p (least_from p d))).0 passed in
      record {
        from = leb-true d (least_from p d) both.0;
        within = upto;
        good = both.1;
        first = λ v from less. least_from_below h v from less;
      }

  pub least_from_only : {u : ℕ} → 1 ≤ d → LeastAdmissible p d u → least_from p d ≡ u
  least_from_only {u} h l = least_from_is u h l.from l.within l.good l.first

-- from 1 on it is the least duration
pub least_from_first : (p : Plan) → least_from p 1 ≡ least p
least_from_first p = go (dec_le (least p) p.top)
  where
    low : 1 ≤ least p
    low = rw least_of (smallest_positive (admissible p) p.top)

    below : (u : ℕ) → 1 ≤ u → u < least p → admissible p u ≡ false
    below u h l = smallest_below (admissible p) p.top u h (rw least_of at l)

    go : Dec (least p ≤ p.top) → least_from p 1 ≡ least p
    go (yes l) =
        least_from_is p 1 (least p) (le_refl 1) low l (rw least_of (smallest-passes (admissible p) p.top (rw least_of at l))) below
    go (no more) =
        least_from_none p 1 (λ u h l. below u h (omega arith))
        ∙ omega (arith, least_of p, smallest_le (admissible p) p.top)
