-- Laws of numbers in decimal digits: a number may be capped at each digit.
use Rattle.std.specs.Prelude.{ℕ, ◌+◌, ◌-◌, ◌*◌, ◌≤◌, ◌<◌, ◌≡◌, min, refl, Bool, true, false, cond, leb, length, get_or, drop}
use Rattle.std.proofs.Common.{sym, ◌∙◌, add-one, arith, leb-true, leb-false, le-leb, drop_of_length-le, drop-cons}
use Rattle.std.proofs.Math.Path.{ap}
use Rattle.std.proofs.Math.Bool.{and-false}
use mathlib.Core.List.{List, [], ◌∷◌}
use Rattle.std.proofs.Math.Option.{some, none}
use Rattle.std.proofs.lemmas.Bool.{lt-leb}
use Rattle.words.specs.Decimal.{zero_digit, is_digit, value_from, largest, capped_at, capped_option_at, decimal_at, decimal_value}

module _ (most : ℕ) where
  pub capped_same : (n : ℕ) → n ≤ most → capped_at most n ≡ n
  unfolding capped_at
  capped_same n less = rw (le-leb n most less)

  pub capped_above : (n : ℕ) → most ≤ n → capped_at most n ≡ most
  unfolding capped_at
  capped_above n more = go (leb n most) refl
    where
      go : (b : Bool) → leb n most ≡ b → cond b n most ≡ most
      go true e = omega (arith, leb-true n most e)
      go false e = refl

  pub capped_min : (n : ℕ) → capped_at most n ≡ min n most
  unfolding capped_at
  capped_min n = go (leb n most) refl
    where
      go : (b : Bool) → leb n most ≡ b → cond b n most ≡ min n most
      go true e = omega (arith, leb-true n most e)
      go false e = omega (arith, leb-false n most e)

  pub capped_most : (n : ℕ) → capped_at most n ≤ most
  unfolding capped_at
  capped_most n = go (leb n most) refl
    where
      go : (b : Bool) → leb n most ≡ b → cond b n most ≤ most
      go true e = leb-true n most e
      go false e = omega arith

  -- once a number is the most, so it stays
  both_above
      : (ds : List ℕ) (v w : ℕ)
      → most ≤ v
      → most ≤ w
      → capped_option_at most (value_from v ds) ≡ capped_option_at most (value_from w ds)
  unfolding value_from
  both_above [] v w a b = ap some (capped_above v a ∙ sym (capped_above w b))
  both_above (d ∷ ds) v w a b = go (both_above ds (10 * v + (d - zero_digit)) (10 * w + (d - zero_digit)) (omega arith) (omega arith)) (is_digit d)
    where
      go
          : capped_option_at most (value_from (10 * v + (d - zero_digit)) ds) ≡ capped_option_at most (value_from (10 * w + (d - zero_digit)) ds)
          → (digit : Bool)
          → capped_option_at most (cond digit (value_from (10 * v + (d - zero_digit)) ds) none) ≡ capped_option_at most (cond digit (value_from (10 * w + (d - zero_digit)) ds) none)
      go rest true = rest
      go rest false = refl

  cap_again : (ds : List ℕ) (v : ℕ) → capped_option_at most (value_from (capped_at most v) ds) ≡ capped_option_at most (value_from v ds)
  cap_again ds v = go (leb v most) refl
    where
      go : (b : Bool) → leb v most ≡ b → capped_option_at most (value_from (capped_at most v) ds) ≡ capped_option_at most (value_from v ds)
      go true e = rw (capped_same v (leb-true v most e))
      go false e =
          let above = leb-false v most e in
          both_above ds (capped_at most v) v (omega (arith, capped_above v (omega arith))) (omega arith)

  -- a text from its i-th byte on
  module _ (text : List ℕ) (i : ℕ) (inside : i < length text) (v : ℕ) where
    abbrev byte : ℕ
    byte = get_or text i 0

    front : drop i text ≡ byte ∷ drop (i + 1) text
    front = rw (add-one, drop-cons text i 0)

    pub not_digit : is_digit byte ≡ false → capped_option_at most (value_from v (drop i text)) ≡ none
    unfolding value_from
    not_digit e = ap (λ (l : List ℕ). capped_option_at most (value_from v l)) front ∙ rw e

    pub next_digit
        : {next : ℕ}
        → is_digit byte ≡ true
        → next ≡ capped_at most (10 * v + (byte - zero_digit))
        → capped_option_at most (value_from v (drop i text)) ≡ capped_option_at most (value_from next (drop (i + 1) text))
    unfolding value_from
    next_digit {next} e is =
        ap (λ (l : List ℕ). capped_option_at most (value_from v l)) front
        ∙ (rw (e, is) (sym (cap_again (drop (i + 1) text) (10 * v + (byte - zero_digit)))))

  -- a text that is not empty
  pub value_whole : (text : List ℕ) → (length text ≡ 0 → ⊥) → decimal_at most text ≡ capped_option_at most (value_from 0 text)
  unfolding decimal_at
  value_whole [] some_byte = absurd (some_byte refl)
  value_whole (d ∷ ds) some_byte = refl

  pub value_empty : (text : List ℕ) → length text ≡ 0 → decimal_at most text ≡ none
  unfolding decimal_at
  value_empty [] e = refl
  value_empty (d ∷ ds) e = absurd (omega arith)

  -- a text that is read to its end
  pub value_end : (text : List ℕ) (i v : ℕ) → length text ≤ i → v ≤ most → capped_option_at most (value_from v (drop i text)) ≡ some v
  unfolding value_from
  value_end text i v past most = rw (drop_of_length-le text {i = i} past) (ap some (capped_same v most))

-- the bytes below the digits and above them
pub low_byte : (d : ℕ) → d < zero_digit → is_digit d ≡ false
low_byte d less = rw (lt-leb zero_digit d less)

pub high_byte : (d : ℕ) → zero_digit + 9 < d → is_digit d ≡ false
high_byte d more = rw (lt-leb d (zero_digit + 9) more) (and-false (leb zero_digit d))

pub digit_byte : (d : ℕ) → zero_digit ≤ d → d ≤ zero_digit + 9 → is_digit d ≡ true
digit_byte d low high = rw (le-leb zero_digit d low, le-leb d (zero_digit + 9) high)

-- the number of a word of a plan's text
pub value-same : (text : List ℕ) → decimal_at largest text ≡ decimal_value text
unfolding decimal_value
value-same text = refl
