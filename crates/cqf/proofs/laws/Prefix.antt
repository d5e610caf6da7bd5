-- Sums, largest numbers, counts and tests over the numbers below k, where those from n on add nothing: the ones below n are enough.
use Rattle.std.specs.Prelude.{◌≡◌, refl, Bool, true, false, ◌&&◌, List, [], ◌∷◌, ℕ, zero, suc, ◌+◌, ◌-◌, ◌≤◌, get_or, eqb}
use Rattle.std.proofs.Common.{ap, ◌∙◌, add-zero, add-suc, le_of_suc-le-suc, not-suc-le-zero, arith, eqb-true}
use Rattle.std.proofs.Math.Bool.{or-false, and-true, and-eq-true_iff}
use Rattle.cqf.specs.Bounded.{sum_to, max_to, count_to, any_to, all_to}

-- a value that does not change from n on
steady : {X : Type 0} (at : ℕ → X) {n k : ℕ} → n ≤ k → ((i : ℕ) → n ≤ i → at (suc i) ≡ at i) → at k ≡ at n
steady at {n} {k} l same = ap at (omega arith) ∙ go (k - n)
  where
    go : (m : ℕ) → at (n + m) ≡ at n
    go zero = ap at (add-zero n)
    go (suc m) = ap at (add-suc n m) ∙ same (n + m) (omega arith) ∙ go m

module _ {n k : ℕ} (l : n ≤ k) where
  pub sum_to_prefix : (g : ℕ → ℕ) → ((i : ℕ) → n ≤ i → g i ≡ 0) → sum_to k g ≡ sum_to n g
  unfolding sum_to
  sum_to_prefix g none = steady (λ i. sum_to i g) l (λ i m. omega (arith, none i m))

  pub max_to_prefix : (g : ℕ → ℕ) → ((i : ℕ) → n ≤ i → g i ≡ 0) → max_to k g ≡ max_to n g
  unfolding max_to
  max_to_prefix g none = steady (λ i. max_to i g) l (λ i m. omega (arith, none i m))

  pub count_to_prefix : (b : ℕ → Bool) → ((i : ℕ) → n ≤ i → b i ≡ false) → count_to k b ≡ count_to n b
  unfolding count_to
  count_to_prefix b none = steady (λ i. count_to i b) l (λ i m. rw (none i m) (omega arith))

  pub any_to_prefix : (b : ℕ → Bool) → ((i : ℕ) → n ≤ i → b i ≡ false) → any_to k b ≡ any_to n b
  unfolding any_to
  any_to_prefix b none = steady (λ i. any_to i b) l (λ i m. rw (none i m) (or-false (any_to i b)))

  pub all_to_prefix : (b : ℕ → Bool) → ((i : ℕ) → n ≤ i → b i ≡ true) → all_to k b ≡ all_to n b
  unfolding all_to
  all_to_prefix b all = steady (λ i. all_to i b) l (λ i m. rw (all i m) (and-true (all_to i b)))

-- whether a list has only 0 from position n on
unfoldable pub blank_from : ℕ → List ℕ → Bool
blank_from n [] = true
blank_from zero (x ∷ xs) = eqb x 0 && blank_from zero xs
blank_from (suc n) (x ∷ xs) = blank_from n xs

pub blank-at : (n : ℕ) (l : List ℕ) → blank_from n l ≡ true → (i : ℕ) → n ≤ i → get_or l i 0 ≡ 0
unfolding blank_from
blank-at n [] e i m = refl
blank-at zero (x ∷ xs) e zero m = eqb-true x 0 ((and-eq-true_iff _ _).0 e).0
blank-at zero (x ∷ xs) e (suc i) m = blank-at zero xs ((and-eq-true_iff (eqb x 0) _).0 e).1 i (omega arith)
blank-at (suc n) (x ∷ xs) e zero m = absurd (not-suc-le-zero m)
blank-at (suc n) (x ∷ xs) e (suc i) m = blank-at n xs e i (le_of_suc-le-suc m)
