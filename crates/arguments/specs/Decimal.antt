-- A number written in decimal digits, and the number that the programs take it for.
use Rattle.std.specs.Prelude.{ℕ, ◌-◌, ◌^◌, List}
use Rattle.std.proofs.Math.Option.{Option}
use Rattle.words.specs.Decimal.{decimal_at}

-- the largest number of 64 bits, for any that is larger
abbrev pub largest : ℕ
largest = 2 ^ 64 - 1

abbrev pub decimal_value : List ℕ → Option ℕ
decimal_value text = decimal_at largest text
