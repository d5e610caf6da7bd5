-- Laws of a set of bits: its lowest member, how many there are, and how it grows.
use Rattle.std.specs.Prelude.{◌≡◌, refl, Bool, true, false, cond, ℕ, zero, suc, ◌+◌, ◌*◌, ◌/◌, ◌%◌, ◌^◌, ◌<◌}
use Rattle.std.proofs.Common.{sym, ◌∙◌, pow-suc, add-zero, mod-eq_of_lt, add-one, arith}
use Rattle.std.specs.Int.Count.{ones, under, count_trailing_zeros}
use Rattle.std.proofs.lemmas.Nat.{ones_cat}
use Rattle.std.specs.Int.Bits.{bit_or, or_shifted_r}
use Rattle.std.proofs.Math.Pow.{pow-lt}
use Rattle.cqf.specs.Bounded.{count_to, lowest}
use Rattle.questions.specs.Failing.{set_to}

-- the set of one number more
set_in : (n : ℕ) (b : ℕ → Bool) → b n ≡ true → set_to (suc n) b ≡ set_to n b + 2 ^ n
unfolding set_to
set_in n b e = rw e

set_out : (n : ℕ) (b : ℕ → Bool) → b n ≡ false → set_to (suc n) b ≡ set_to n b
unfolding set_to
set_out n b e = rw e (add-zero (set_to n b))

-- a set of numbers below n is below 2 ^ n
pub set_lt : (n : ℕ) (b : ℕ → Bool) → set_to n b < 2 ^ n
unfolding set_to
set_lt zero b = omega arith
set_lt (suc n) b = go (b n) (set_lt n b)
  where
    go : (x : Bool) → set_to n b < 2 ^ n → set_to n b + cond x (2 ^ n) 0 < 2 ^ suc n
    go true h = omega (arith, pow-suc 2 n)
    go false h = omega (arith, pow-suc 2 n)

-- its lowest bit, and the bits above it
pub shift : (n : ℕ) (b : ℕ → Bool) → set_to (suc n) b ≡ cond (b zero) 1 0 + 2 * set_to n (λ i. b (suc i))
unfolding set_to
shift zero b = omega arith
shift (suc n) b = omega (arith, shift n b, double (b (suc n)))
  where
    double : (x : Bool) → cond x (2 ^ suc n) 0 ≡ 2 * cond x (2 ^ n) 0
    double true = omega (arith, pow-suc 2 n)
    double false = refl

-- its zeros from below count up to its lowest member
pub set_lowest : (n : ℕ) (b : ℕ → Bool) → count_trailing_zeros n (set_to n b) ≡ lowest n b
unfolding count_trailing_zeros lowest
set_lowest zero b = refl
set_lowest (suc n) b = rw (shift n b) (go (b zero) (set_lowest n (λ i. b (suc i))))
  where
    go
        : (x : Bool)
        → count_trailing_zeros n (set_to n (λ i. b (suc i))) ≡ lowest n (λ i. b (suc i))
        → under ((cond x 1 0 + 2 * set_to n (λ i. b (suc i))) % 2) (count_trailing_zeros n ((cond x 1 0 + 2 * set_to n (λ i. b (suc i))) / 2))
        ≡ elim x [ true ↦ zero | false ↦ suc (lowest n (λ i. b (suc i))) ]
    go true h =
        let odd : (1 + 2 * set_to n (λ i. b (suc i))) % 2 ≡ 1 = omega arith in
        rw odd
    go false h =
        let even : (0 + 2 * set_to n (λ i. b (suc i))) % 2 ≡ 0 = omega arith in
        let half : (0 + 2 * set_to n (λ i. b (suc i))) / 2 ≡ set_to n (λ i. b (suc i)) = omega arith in
        rw (even, half, h)

-- it has as many ones as members
pub set_ones : (n : ℕ) (b : ℕ → Bool) → ones (set_to n b) ≡ count_to n b
unfolding set_to count_to ones
set_ones zero b = refl
set_ones (suc n) b = go (b n) (set_ones n b)
  where
    go : (x : Bool) → ones (set_to n b) ≡ count_to n b → ones (set_to n b + cond x (2 ^ n) 0) ≡ count_to n b + cond x 1 0
    go true h =
        let swap : set_to n b + 2 ^ n ≡ 1 * 2 ^ n + set_to n b = omega arith in
        rw (swap, ones_cat n 1 (set_to n b) (set_lt n b), h) (omega arith)
    go false h = rw (add-zero (set_to n b), h) (sym (add-zero (count_to n b)))

-- a word of 64 bits takes one number more by a bit that is shifted to it
pub set_or
    : (n : ℕ) (b : ℕ → Bool) {s : ℕ}
    → n < 64
    → s ≡ set_to n b
    → b n ≡ true
    → bit_or s (1 * 2 ^ n % 2 ^ 64) ≡ set_to (n + 1) b
set_or n b {s} small is e =
    let bit : 1 * 2 ^ n < 2 ^ 64 = omega (arith, pow-lt small) in
    rw (mod-eq_of_lt bit, is, or_shifted_r 1 n (set_to n b) (set_lt n b), add-one n, set_in n b e) (omega arith)

pub set_skip : (n : ℕ) (b : ℕ → Bool) {s : ℕ} → s ≡ set_to n b → b n ≡ false → s ≡ set_to (n + 1) b
set_skip n b is e = is ∙ sym (rw (add-one n) (set_out n b e))
