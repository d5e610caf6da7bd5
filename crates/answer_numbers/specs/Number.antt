-- The number of an answer by that of its refusal.
use Rattle.std.specs.Prelude.{ℕ, Result, Ok, Err}

-- 0 for a result, and for a refusal its own number
abbrev pub number_by : {A R : Type 0} → (R → ℕ) → Result A R → ℕ
number_by number (Ok x) = 0
number_by number (Err r) = number r
