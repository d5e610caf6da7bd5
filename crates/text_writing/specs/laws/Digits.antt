-- Laws of decimal digits.
use Rattle.std.specs.Prelude.{ℕ, zero, suc, ◌+◌, ◌-◌, ◌/◌, ◌%◌, ◌≤◌, ◌<◌, ◌≡◌, refl, Bool, true, false, cond, List, [], ◌∷◌, ◌++◌, ltb, length}
use Rattle.std.proofs.Common.{sym, arith, sub-one, lt-ltb, le-ltb, length-append}
use Rattle.words.specs.Decimal.{zero_digit}
use Rattle.plan_text.specs.Print.{digits_by}
use Rattle.text_writing.specs.Puts.{Puts}
use Rattle.text_writing.specs.laws.Puts.{puts_none, Puts-then, puts_as, puts_few}

pub digits-none : (n : ℕ) → digits_by 0 n ≡ []
unfolding digits_by
digits-none n = refl

pub digits-one : (most n : ℕ) → (most ≡ 0 → ⊥) → n < 10 → digits_by most n ≡ (zero_digit + n) ∷ []
unfolding digits_by
digits-one zero n some low = absurd (some refl)
digits-one (suc k) n some low = rw (lt-ltb n 10 low)

pub digits_more : (most n : ℕ) → (most ≡ 0 → ⊥) → 10 ≤ n → digits_by most n ≡ digits_by (most - 1) (n / 10) ++ ((zero_digit + n % 10) ∷ [])
unfolding digits_by
digits_more zero n some high = absurd (some refl)
digits_more (suc k) n some high = rw (le-ltb n 10 high, sub-one (suc k))

pub digits_two : (most n : ℕ) → 2 ≤ most → 10 ≤ n → n < 100 → digits_by most n ≡ (zero_digit + n / 10) ∷ (zero_digit + n % 10) ∷ []
digits_two most n two high low =
    rw (digits_more most n (λ none. omega (arith, none)) high, digits-one (most - 1) (n / 10) (λ none. omega (arith, none)) (omega arith))

-- two digits, one behind the other
pub puts_two
    : (most n : ℕ) {buffer now exit : List ℕ} {at mid next : ℕ}
    → 2 ≤ most
    → 10 ≤ n
    → n < 100
    → Puts 1 ((zero_digit + n / 10) ∷ []) buffer at mid now
    → Puts 1 ((zero_digit + n % 10) ∷ []) now mid next exit
    → Puts most (digits_by most n) buffer at next exit
puts_two most n two high low p q = puts_as (sym (digits_two most n two high low)) (puts_few most two (Puts-then p q))

-- a number written: none of its digits, one, and the last behind the others
module _ (most n : ℕ) {buffer : List ℕ} {at : ℕ} where
  pub puts_no_digit : most ≡ 0 → Puts most (digits_by most n) buffer at at buffer
  puts_no_digit none = rw (none, digits-none n) (puts_none buffer at 0)

  module _ (some : most ≡ 0 → ⊥) {next : ℕ} {exit : List ℕ} where
    pub puts_digit : n < 10 → Puts 1 ((zero_digit + n) ∷ []) buffer at next exit → Puts most (digits_by most n) buffer at next exit
    puts_digit low p = puts_as (sym (digits-one most n some low)) (puts_few most (omega arith) p)

    pub puts_last
        : {mid : ℕ} {now : List ℕ}
        → 10 ≤ n
        → Puts (most - 1) (digits_by (most - 1) (n / 10)) buffer at mid now
        → Puts 1 ((zero_digit + n % 10) ∷ []) now mid next exit
        → Puts most (digits_by most n) buffer at next exit
    puts_last high p q =
        let both = Puts-then p q in
        puts_as (sym (digits_more most n some high)) (puts_few most (omega (arith, both.few)) both)

-- how many digits a number has
grows : (b : Bool) (x y : ℕ) (front : List ℕ) (k : ℕ) → length front ≤ k → length (cond b (x ∷ []) (front ++ (y ∷ []))) ≤ suc k
grows true x y front k few = omega arith
grows false x y front k few = omega (arith, length-append front (y ∷ []))

pub digits_most : (most n : ℕ) → length (digits_by most n) ≤ most
unfolding digits_by
digits_most zero n = omega arith
digits_most (suc k) n = grows (ltb n 10) (zero_digit + n) (zero_digit + n % 10) (digits_by k (n / 10)) k (digits_most k (n / 10))

below_10 : (most n : ℕ) → n < 10 → length (digits_by most n) ≤ 1
unfolding digits_by
below_10 zero n low = omega arith
below_10 (suc k) n low = rw (lt-ltb n 10 low) (omega arith)

below_100 : (most n : ℕ) → n < 100 → length (digits_by most n) ≤ 2
unfolding digits_by
below_100 zero n low = omega arith
below_100 (suc k) n low = grows (ltb n 10) (zero_digit + n) (zero_digit + n % 10) (digits_by k (n / 10)) 1 (below_10 k (n / 10) (omega arith))

pub below_1000 : (most n : ℕ) → n < 1000 → length (digits_by most n) ≤ 3
unfolding digits_by
below_1000 zero n low = omega arith
below_1000 (suc k) n low = grows (ltb n 10) (zero_digit + n) (zero_digit + n % 10) (digits_by k (n / 10)) 2 (below_100 k (n / 10) (omega arith))
