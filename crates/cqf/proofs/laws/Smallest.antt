-- The smallest duration that passes a test, the durations that are safe up to top, and the two answers built of them.
use Rattle.std.specs.Prelude.{◌≡◌, refl, ◌↔◌, Bool, true, false, not, ◌&&◌, leb}
use Rattle.std.proofs.Common.{sym, ap, ◌∙◌, true≢false, le_refl, le_antisymm, not-suc-le-zero, le_of_suc-le-suc, le-leb, leb-true}
use Rattle.std.proofs.lemmas.Bool.{false≢true, not-true}
use Rattle.std.proofs.Math.Bool.{and-eq-true_iff}
use mathlib.Mathlib.Data.Bool.Basic.{eq-false_of_not-eq-true}
use Prim.Native.Nat.{ℕ, zero, suc, ◌≤◌, ◌<◌}
use Rattle.std.proofs.Math.Decide.{dec_lt, dec_le}
use native.Mathlib.Omega.{arith}
use Rattle.cqf.specs.Bounded.{any_to}
use Rattle.cqf.specs.Plan.{Plan}
use Rattle.cqf.specs.Condition.{admissible, safe_from, smallest, least, margin_safe}
use Rattle.cqf.proofs.laws.Bounded.{any_to_true, any_to_some, lowest_le, lowest-passes, lowest_below}

module _ (good : ℕ → Bool) (top : ℕ) where
  -- it is from 1 to one above top; it passes where it is at most top; nothing below it does
  pub smallest_positive : 1 ≤ smallest good top
  unfolding smallest
  smallest_positive = omega arith

  pub smallest_le : smallest good top ≤ suc top
  unfolding smallest
  smallest_le = omega (arith, lowest_le top (λ i. good (suc i)))

  pub smallest-passes : smallest good top ≤ top → good (smallest good top) ≡ true
  unfolding smallest
  smallest-passes l = lowest-passes top (λ i. good (suc i)) l

  pub smallest_below : (t : ℕ) → 1 ≤ t → t < smallest good top → good t ≡ false
  unfolding smallest
  smallest_below zero h l = absurd (not-suc-le-zero h)
  smallest_below (suc i) h l = lowest_below top (λ i. good (suc i)) i (le_of_suc-le-suc l)

  -- so a duration that passes, with none below it that does, is the smallest
  pub smallest_is
      : (T : ℕ)
      → 1 ≤ T
      → T ≤ top
      → good T ≡ true
      → ((t : ℕ) → 1 ≤ t → t < T → good t ≡ false)
      → smallest good top ≡ T
  smallest_is T h l e none = go (dec_lt (smallest good top) T) (dec_lt T (smallest good top))
    where
      go : Dec (smallest good top < T) → Dec (T < smallest good top) → smallest good top ≡ T
      go (yes less) d =
          let below = none (smallest good top) smallest_positive less in
          absurd (false≢true (sym below ∙ smallest-passes (omega arith)))
      go (no _) (yes more) = absurd (false≢true (sym (smallest_below T h more) ∙ e))
      go (no a) (no b) = omega arith

  -- and where none from 1 to top passes, it is one above top
  pub smallest-none : ((t : ℕ) → 1 ≤ t → t ≤ top → good t ≡ false) → smallest good top ≡ suc top
  smallest-none none = go (dec_le (smallest good top) top)
    where
      go : Dec (smallest good top ≤ top) → smallest good top ≡ suc top
      go (yes l) = absurd (false≢true (sym (none _ smallest_positive l) ∙ smallest-passes l))
      go (no more) = omega (arith, smallest_le)

-- a duration is safe exactly where each from it to top is admissible
pub safe_every : (p : Plan) (T : ℕ) → ((t : ℕ) → T ≤ t → t ≤ p.top → admissible p t ≡ true) → safe_from p T ≡ true
unfolding safe_from
safe_every p T h = ap not (eq-false_of_not-eq-true none)
  where
    bad : ℕ → Bool
    bad t = leb T t && not (admissible p t)

    none : any_to (suc p.top) bad ≡ true → ⊥
    none e =
        let s = any_to_true (suc p.top) bad e in
        let t = (and-eq-true_iff (leb T s.0) _).0 s.2 in
        false≢true (sym (not-true _ t.1) ∙ h s.0 (leb-true T s.0 t.0) (omega (arith, s.1)))

pub safe_at : (p : Plan) (T t : ℕ) → safe_from p T ≡ true → T ≤ t → t ≤ p.top → admissible p t ≡ true
unfolding safe_from
safe_at p T t e l m = go (admissible p t) refl
  where
    go : (x : Bool) → admissible p t ≡ x → x ≡ true
    go true a = refl
    go false a =
        absurd (true≢false
        (sym (any_to_some (suc p.top) (λ t. leb T t && not (admissible p t)) t (omega arith) ((and-eq-true_iff _ _).1 (le-leb T t l, ap not a)))
        ∙ not-true _ e))

pub not_safe : (p : Plan) (T t : ℕ) → T ≤ t → t ≤ p.top → admissible p t ≡ false → safe_from p T ≡ false
not_safe p T t l m a = eq-false_of_not-eq-true (λ e. false≢true (sym a ∙ safe_at p T t e l m))

-- the two answers by the test that they are the smallest of
pub least_of : (p : Plan) → least p ≡ smallest (admissible p) p.top
unfolding least
least_of p = refl

pub margin_safe_of : (p : Plan) → margin_safe p ≡ smallest (safe_from p) p.top
unfolding margin_safe
margin_safe_of p = refl

-- the margin-safe duration: all from it to top are admissible, and it is 1 or the one below it is not
pub margin_safe_is
    : (p : Plan) (T : ℕ)
    → 1 ≤ T
    → T ≤ p.top
    → ((t : ℕ) → T ≤ t → t ≤ p.top → admissible p t ≡ true)
    → ((t : ℕ) → 1 ≤ t → suc t ≡ T → admissible p t ≡ false)
    → margin_safe p ≡ T
margin_safe_is p zero h l safe edge = absurd (not-suc-le-zero h)
margin_safe_is p (suc T) h l safe edge =
    margin_safe_of p
    ∙ smallest_is (safe_from p) p.top (suc T) h l (safe_every p (suc T) safe)
    (λ t k less. not_safe p t T (omega arith) (omega arith) (edge T (omega arith) refl))

-- there is none exactly where top is not admissible
pub margin_safe_none : (p : Plan) → 1 ≤ p.top → (margin_safe p ≡ suc p.top) ↔ (admissible p p.top ≡ false)
margin_safe_none p h = (
  (λ e. eq-false_of_not-eq-true (λ a. false≢true (sym (unsafe e) ∙ safe_every p p.top (at_top a)))),
  λ a. margin_safe_of p ∙ smallest-none (safe_from p) p.top (λ t _ l. not_safe p t p.top l (le_refl _) a),
)
  where
    unsafe : margin_safe p ≡ suc p.top → safe_from p p.top ≡ false
    unsafe e = smallest_below (safe_from p) p.top p.top h (omega (arith, margin_safe_of p))

    at_top : admissible p p.top ≡ true → (t : ℕ) → p.top ≤ t → t ≤ p.top → admissible p t ≡ true
    at_top a t l m = ap (admissible p) (le_antisymm m l) ∙ a
