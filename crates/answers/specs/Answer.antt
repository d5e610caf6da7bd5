-- What a call answers.
use Rattle.std.specs.Prelude.{ℕ, List}

-- a result, or a refusal's number and what it carries
pub data Answer (A : Type 0) : Type 0 where
  result : A → Answer A
  refusal : (number : ℕ) → (values : List ℕ) → Answer A

-- its number: 0 for a result
abbrev pub refusal_number : {A : Type 0} → Answer A → ℕ
refusal_number (result x) = 0
refusal_number (refusal number values) = number
