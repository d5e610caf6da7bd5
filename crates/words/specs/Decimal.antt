-- A number written in decimal digits, as ASCII has them, and the number that the program takes it for.
use Rattle.std.specs.Prelude.{ℕ, ◌+◌, ◌-◌, ◌*◌, ◌^◌, Bool, cond, ◌&&◌, List, [], ◌∷◌, leb}
use Rattle.std.proofs.Math.Option.{Option, some, none}
use Rattle.std.specs.Prelude.{Option as Parsed, Some, None}

abbrev pub zero_digit : ℕ
zero_digit = 48

abbrev pub is_digit : ℕ → Bool
is_digit d = leb zero_digit d && leb d (zero_digit + 9)

-- the number of digits behind others of this value; none where something else stands among them
unfoldable pub value_from : (value : ℕ) → List ℕ → Option ℕ
value_from value [] = some value
value_from value (d ∷ ds) = cond (is_digit d) (value_from (10 * value + (d - zero_digit)) ds) none

-- the number of a text, which has one digit at least
abbrev pub digits_value : List ℕ → Option ℕ
digits_value [] = none
digits_value (d ∷ ds) = value_from 0 (d ∷ ds)

-- the most that is told apart, for any number that is larger
unfoldable pub capped_at : (most : ℕ) → ℕ → ℕ
capped_at most n = cond (leb n most) n most

abbrev pub capped_option_at : (most : ℕ) → Option ℕ → Option ℕ
capped_option_at most (some n) = some (capped_at most n)
capped_option_at most none = none

unfoldable pub decimal_at : (most : ℕ) → List ℕ → Option ℕ
unfolding value_from capped_at
decimal_at most text = capped_option_at most (digits_value text)

-- of a plan's text: one below the largest of 64 bits, which is left for what is no number
abbrev pub largest : ℕ
largest = 2 ^ 64 - 2

abbrev pub capped : ℕ → ℕ
capped n = capped_at largest n

abbrev pub capped_option : Option ℕ → Option ℕ
capped_option o = capped_option_at largest o

unfoldable pub decimal_value : List ℕ → Option ℕ
unfolding decimal_at
decimal_value text = decimal_at largest text

abbrev pub parsed_of : Parsed ℕ → Option ℕ
parsed_of (Some n) = some n
parsed_of None = none
