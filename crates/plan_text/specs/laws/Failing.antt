-- Laws of the first of a list that fails a test.
use Prim.Native.Nat.{ℕ, suc, ◌+◌, ◌≤◌, ◌<◌}
use Rattle.std.specs.Prelude.{◌≡◌, refl, Bool, true, false, List, [], ◌∷◌, map, length}
use Rattle.std.proofs.Common.{sym, ◌∙◌, arith, add-one, drop_of_length-le, drop-cons}
use Rattle.std.proofs.Math.Path.{ap}
use Rattle.std.proofs.Math.Bool.{cond}
use Rattle.std.proofs.Math.ListN.{get_or, drop}
use Rattle.plan_text.specs.Line.{first_failing}

-- tests that agree find the same
pub failing_same : {A : Type 0} (s t : ℕ → A → Bool) (xs : List A) → ((i : ℕ) (x : A) → s i x ≡ t i x) → first_failing s xs ≡ first_failing t xs
unfolding first_failing
failing_same s t [] h = refl
failing_same s t (x ∷ xs) h = rw (h 0 x, failing_same (λ i. s (suc i)) (λ i. t (suc i)) xs (λ i. h (suc i)))

-- of numbers made from others
pub failing_map : {A B : Type 0} (t : ℕ → B → Bool) (f : A → B) (xs : List A) → first_failing t (map f xs) ≡ first_failing (λ i x. t i (f x)) xs
unfolding first_failing
failing_map t f [] = refl
failing_map t f (x ∷ xs) = rw (failing_map (λ i. t (suc i)) f xs)

-- from a place on
module _ (t : ℕ → ℕ → Bool) (l : List ℕ) where
  abbrev pub from : ℕ → ℕ
  from i = i + first_failing (λ j. t (i + j)) (drop i l)

  pub failing_from : first_failing t l ≡ from 0
  failing_from = failing_same t (λ j. t (0 + j)) l (λ i x. ap (λ (k : ℕ). t k x) (omega arith)) ∙ omega arith

  module _ (i : ℕ) (inside : i < length l) where
    step : first_failing (λ j. t (i + j)) (drop i l) ≡ cond (t i (get_or l i 0)) (suc (first_failing (λ j. t (i + suc j)) (drop (i + 1) l))) 0
    unfolding first_failing
    step =
        ap (first_failing (λ j. t (i + j))) (drop-cons l i 0 inside ∙ ap (λ (k : ℕ). get_or l i 0 ∷ drop k l) (sym (add-one i)))
        ∙ ap (λ (k : ℕ). cond (t k (get_or l i 0)) (suc (first_failing (λ j. t (i + suc j)) (drop (i + 1) l))) 0) (omega arith)

    pub failing_more : t i (get_or l i 0) ≡ true → from i ≡ from (i + 1)
    failing_more e =
        let more : first_failing (λ j. t (i + suc j)) (drop (i + 1) l) ≡ first_failing (λ j. t (i + 1 + j)) (drop (i + 1) l) =
        failing_same (λ j. t (i + suc j)) (λ j. t (i + 1 + j)) (drop (i + 1) l) (λ j x. ap (λ (k : ℕ). t k x) (omega arith)) in
        let here : first_failing (λ j. t (i + j)) (drop i l) ≡ suc (first_failing (λ j. t (i + 1 + j)) (drop (i + 1) l)) = step ∙ rw e (ap suc more) in
        omega (arith, here)

    pub failing_here : t i (get_or l i 0) ≡ false → from i ≡ i
    failing_here e =
        let here : first_failing (λ j. t (i + j)) (drop i l) ≡ 0 = step ∙ rw e in
        omega (arith, here)

  pub failing_end : (i : ℕ) → length l ≤ i → from i ≡ i
  unfolding first_failing
  failing_end i past = rw (drop_of_length-le l {i = i} past) (omega arith)
