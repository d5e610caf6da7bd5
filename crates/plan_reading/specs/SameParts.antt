-- Two plans that say the same, whatever their forms.
use Rattle.std.specs.Prelude.{ℕ, ◌↔◌}
use mathlib.Core.List.{List, Memᴰ}
use Rattle.plan_reading.specs.Part.{Part}
use Rattle.plan_reading.specs.FieldOrder.{Nothing}
use Rattle.plan_reading.specs.Strict.{fields_in, parts_row}

-- what the fields of a plan say
unfoldable pub parts_in : List ℕ → List Part
unfolding fields_in
parts_in s = parts_row (fields_in s)

-- each part that says more than its absence is said by both or by neither
abbrev pub SameParts : List ℕ → List ℕ → Type 0
SameParts s t = (x : Part) → (Nothing x → ⊥) → Memᴰ x (parts_in s) ↔ Memᴰ x (parts_in t)
