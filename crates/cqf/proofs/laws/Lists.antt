-- Laws of the tests on lists of numbers, and of a sublist of a list.
use Rattle.std.specs.Prelude.{◌≡◌, refl, Bool, true, false, not, ◌||◌, List, [], ◌∷◌, ℕ, zero, suc, ◌+◌, ◌<◌, length, get_or, eqb}
use Rattle.std.proofs.Common.{sym, ap, ◌∙◌, true≢false, not-suc-le-zero, le_of_suc-le-suc, arith, eqb-true, eq-eqb}
use Rattle.std.proofs.lemmas.Bool.{false≢true, not-true}
use Rattle.std.proofs.Math.Bool.{or-true, and-eq-true_iff}
use Rattle.cqf.specs.Bounded.{elem, distinct, every, sublist}

-- a number that stands in a list stands at a position of it
pub elem_index : (n : ℕ) (l : List ℕ) → elem n l ≡ true → (i : ℕ) × (i < length l) × (get_or l i 0 ≡ n)
unfolding elem
elem_index n [] e = absurd (false≢true e)
elem_index n (x ∷ xs) e = go (elem_index n xs) (eqb n x) refl e
  where
    go
        : (elem n xs ≡ true → (i : ℕ) × (i < length xs) × (get_or xs i 0 ≡ n))
        → (b : Bool)
        → eqb n x ≡ b
        → b || elem n xs ≡ true
        → (i : ℕ) × (i < suc (length xs)) × (get_or (x ∷ xs) i 0 ≡ n)
    go r true h k = (zero, omega arith, sym (eqb-true n x h))
    go r false h k = (suc (r k).0, omega (arith, (r k).1), (r k).2)

-- what stands at a position of a list stands in it
pub elem_at : (l : List ℕ) (i : ℕ) → i < length l → elem (get_or l i 0) l ≡ true
unfolding elem
elem_at [] i l = absurd (not-suc-le-zero l)
elem_at (x ∷ xs) zero l = rw (eq-eqb x x refl)
elem_at (x ∷ xs) (suc i) l = rw (elem_at xs i (le_of_suc-le-suc l)) (or-true (eqb (get_or xs i 0) x))

-- a number that does not stand in a list stands at no position of it
pub elem-none : (n : ℕ) (l : List ℕ) → elem n l ≡ false → (i : ℕ) → i < length l → get_or l i 0 ≡ n → ⊥
elem-none n l e i h d = true≢false (sym (elem_at l i h) ∙ ap (λ (m : ℕ). elem m l) d ∙ e)

-- a list without a number twice has each at one position
pub distinct_index
    : (l : List ℕ)
    → distinct l ≡ true
    → (i j : ℕ)
    → i < length l
    → j < length l
    → get_or l i 0 ≡ get_or l j 0
    → i ≡ j
unfolding distinct
distinct_index [] e i j hi hj d = absurd (not-suc-le-zero hi)
distinct_index (x ∷ xs) e zero zero hi hj d = refl
distinct_index (x ∷ xs) e zero (suc j) hi hj d =
    absurd (elem-none x xs (not-true (elem x xs) ((and-eq-true_iff (not (elem x xs)) (distinct xs)).0 e).0) j (le_of_suc-le-suc hj) (sym d))
distinct_index (x ∷ xs) e (suc i) zero hi hj d =
    absurd (elem-none x xs (not-true (elem x xs) ((and-eq-true_iff (not (elem x xs)) (distinct xs)).0 e).0) i (le_of_suc-le-suc hi) d)
distinct_index (x ∷ xs) e (suc i) (suc j) hi hj d =
    ap suc (distinct_index xs ((and-eq-true_iff (not (elem x xs)) (distinct xs)).0 e).1 i j (le_of_suc-le-suc hi) (le_of_suc-le-suc hj) d)

-- a test that each number of a list passes
pub every-at : (b : ℕ → Bool) (l : List ℕ) → every b l ≡ true → (i : ℕ) → i < length l → b (get_or l i 0) ≡ true
unfolding every
every-at b [] e i h = absurd (not-suc-le-zero h)
every-at b (x ∷ xs) e zero h = ((and-eq-true_iff (b x) (every b xs)).0 e).0
every-at b (x ∷ xs) e (suc i) h = every-at b xs ((and-eq-true_iff (b x) (every b xs)).0 e).1 i (le_of_suc-le-suc h)

-- a sublist of h numbers has length h
pub sublist_length : (l : List ℕ) (at h : ℕ) → length (sublist l at h) ≡ h
unfolding sublist
sublist_length l at zero = refl
sublist_length l at (suc h) = ap suc (sublist_length l (suc at) h)

-- number i of a sublist
pub sublist-at : (l : List ℕ) (at h i : ℕ) → i < h → get_or (sublist l at h) i 0 ≡ get_or l (at + i) 0
unfolding sublist
sublist-at l at zero i less = absurd (not-suc-le-zero less)
sublist-at l at (suc h) zero less = ap (λ (n : ℕ). get_or l n 0) (omega arith)
sublist-at l at (suc h) (suc i) less = sublist-at l (suc at) h i (le_of_suc-le-suc less) ∙ ap (λ (n : ℕ). get_or l n 0) (omega arith)
