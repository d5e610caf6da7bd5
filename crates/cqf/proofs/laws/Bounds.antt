-- Bounds of sums, of largest numbers and of tests over the numbers below a bound.
use Rattle.std.specs.Prelude.{◌≡◌, refl, Bool, true, false, ℕ, zero, suc, max, ◌+◌, ◌*◌, ◌≤◌, ◌<◌}
use Rattle.std.proofs.Common.{sym, ap₂, ◌∙◌, zero-le, suc-mul, add-one, arith}
use Rattle.std.proofs.lemmas.Bool.{false≢true}
use Rattle.std.proofs.Math.Decide.{ℕ_discrete, dec_lt}
use Rattle.cqf.specs.Bounded.{sum_to, max_to, all_to, any_to}
use Rattle.cqf.proofs.laws.Bounded.{all_to-at}

-- a sum of n terms of at most m is at most n * m
pub sum_to_most : (n : ℕ) (g : ℕ → ℕ) (m : ℕ) → ((i : ℕ) → i < n → g i ≤ m) → sum_to n g ≤ n * m
unfolding sum_to
sum_to_most zero g m h = zero-le
sum_to_most (suc n) g m h =
    omega (arith, sum_to_most n g m (λ i l. h i (omega arith)), h n (omega arith), suc-mul n m)

-- one that fails makes the test over all fail
pub all_to_false : (n : ℕ) (b : ℕ → Bool) (i : ℕ) → i < n → b i ≡ false → all_to n b ≡ false
all_to_false n b i l e = go (all_to n b) refl
  where
    go : (x : Bool) → all_to n b ≡ x → x ≡ false
    go true h = absurd (false≢true (sym e ∙ all_to-at n b h i l))
    go false h = refl

-- a test over all, and one over some, one number further
pub all_to-next : (n : ℕ) (b : ℕ → Bool) → all_to n b ≡ true → b n ≡ true → all_to (n + 1) b ≡ true
unfolding all_to
all_to-next n b e h = rw (add-one n, e, h)

pub any_to-next : (n : ℕ) (b : ℕ → Bool) → any_to n b ≡ false → b n ≡ false → any_to (n + 1) b ≡ false
unfolding any_to
any_to-next n b e h = rw (add-one n, e, h)

-- the largest of n numbers is at least each of them, at most what each is at most, and, where it is above 0, one of them
pub max_to_most : (n : ℕ) (g : ℕ → ℕ) (i : ℕ) → i < n → g i ≤ max_to n g
unfolding max_to
max_to_most zero g i l = absurd (omega arith)
max_to_most (suc n) g i l = go (ℕ_discrete i n) (max_to_most n g i)
  where
    go : Dec (i ≡ n) → (i < n → g i ≤ max_to n g) → g i ≤ max (max_to n g) (g n)
    go (yes e) ih = rw e (omega arith)
    go (no ne) ih = omega (arith, ih (omega arith))

pub max_to-least : (n : ℕ) (g : ℕ → ℕ) (m : ℕ) → ((i : ℕ) → i < n → g i ≤ m) → max_to n g ≤ m
unfolding max_to
max_to-least zero g m h = zero-le
max_to-least (suc n) g m h = omega (arith, max_to-least n g m (λ i l. h i (omega arith)), h n (omega arith))

pub max_to-at : (n : ℕ) (g : ℕ → ℕ) → 0 < max_to n g → (i : ℕ) × (i < n) × (g i ≡ max_to n g)
unfolding max_to
max_to-at zero g l = absurd (omega arith)
max_to-at (suc n) g l = go (dec_lt (max_to n g) (g n)) (max_to-at n g)
  where
    go
        : Dec (max_to n g < g n)
        → (0 < max_to n g → (i : ℕ) × (i < n) × (g i ≡ max_to n g))
        → (i : ℕ) × (i < suc n) × (g i ≡ max (max_to n g) (g n))
    go (yes less) ih = (n, omega arith, omega arith)
    go (no more) ih =
        let s = ih (omega arith) in
        (s.0, omega (arith, s.1), omega (arith, s.2))

-- it is the same for the same numbers, and one number further
pub max_to_same : (n : ℕ) (g h : ℕ → ℕ) → ((i : ℕ) → i < n → g i ≡ h i) → max_to n g ≡ max_to n h
unfolding max_to
max_to_same zero g h e = refl
max_to_same (suc n) g h e = ap₂ max (max_to_same n g h (λ i l. e i (omega arith))) (e n (omega arith))

pub max_to-next : (n : ℕ) (g : ℕ → ℕ) → max_to (n + 1) g ≡ max (max_to n g) (g n)
unfolding max_to
max_to-next n g = rw (add-one n)
