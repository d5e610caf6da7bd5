-- What a field puts into a column of the tables, or in place of what stands alone, if anything.
use Rattle.std.specs.Prelude.{ℕ, List, set}
use Rattle.std.proofs.Math.Option.{Option, some, none}
use Rattle.std.proofs.lemmas.List.Edits.{sets}

pub data Put : Type 0 where
  keep : Put
  number : (slot value : ℕ) → Put
  run : (position : ℕ) (values : List ℕ) → Put

-- the column with it
abbrev pub put : List ℕ → Put → List ℕ
put l keep = l
put l (number slot value) = set l slot value
put l (run position values) = sets l position values

-- what is given, or what was before
abbrev pub given : {A : Type 0} → A → Option A → A
given a (some b) = b
given a none = a
