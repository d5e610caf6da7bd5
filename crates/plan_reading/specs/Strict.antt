-- What is said of the strict reading: the fields of a plan as they are read, whether they stand in order, and what is answered
-- where they do not.
use Rattle.std.specs.Prelude.{ℕ, zero, suc, ◌≡◌, Bool, true, false, cond, ◌&&◌, ◌||◌, leb, ltb, eqb, length}
use mathlib.Core.List.{List, [], ◌∷◌, ◌++◌, Permᴰ}
use Rattle.answers.specs.Refusals.{out_of_order}
use Rattle.cqf.specs.Plan.{Plan}
use Rattle.cqf.specs.Form.{Form}
use Rattle.plan.specs.Layout.{form_by}
use Rattle.plan.specs.Field.{Field, field, refused, field_at}
use Rattle.plan_reading.specs.Part.{Part, parts_of}
use Rattle.plan_reading.specs.Rank.{before}
use Rattle.plan_reading.specs.Reading.{PlanRead, accepted, rejected, Mode, route_at, read_as_of}

-- the plan that a reading accepts, with its numbers of port and flow fields
pub record Accepts (mode : Mode) (s : List ℕ) : Type 0 where
  pub plan : Plan
  pub ports : ℕ
  pub flows : ℕ
  pub reads : read_as_of mode s ≡ accepted plan ports flows

-- a field as it is read: its kind and numbers, and the ports of its route
pub record Entry : Type 0 where
  pub field : Field
  pub route : List ℕ

abbrev pub entry_of : Field → List ℕ → Entry
entry_of x r = record { field = x; route = r }

-- what the fields of a row say
abbrev pub parts_row : List Entry → List Part
parts_row [] = []
parts_row (e ∷ es) = parts_of e.field e.route ++ parts_row es

-- the fields from this offset on, as far as each passes the tests 2 to 5. The first number bounds how many are read: the plan's
-- length is enough.
unfoldable pub fields_from : Form → ℕ → List ℕ → ℕ → List Entry
unfolding field_at
fields_from form zero s at = []
fields_from form (suc n) s at =
    elim (field_at form s at) [ field x next ↦ entry_of x (route_at x.kind s at) ∷ fields_from form n s next | refused number offset ↦ [] ]

-- the fields of a plan, from the front
unfoldable pub fields_in : List ℕ → List Entry
unfolding fields_from form_by
fields_in s = fields_from (form_by s) (length s) s 0

-- two plans hold the same fields, in whatever order
abbrev pub SameContent : List ℕ → List ℕ → Type 0
SameContent s t = Permᴰ (fields_in s) (fields_in t)

-- each field stands before all that follow it
unfoldable pub ahead : Field → List Entry → Bool
ahead x [] = true
ahead x (e ∷ es) = before x e.field && ahead x es

unfoldable pub rising : List Entry → Bool
unfolding ahead
rising [] = true
rising (e ∷ es) = ahead e.field es && rising es

-- the plan's fields stand in strict order
abbrev pub InOrder : List ℕ → Type 0
InOrder s = rising (fields_in s) ≡ true

-- a field that should have stood earlier: one in front of it is due after it
unfoldable pub overdue : Field → List Field → Bool
overdue x [] = false
overdue x (y ∷ ys) = before x y || overdue x ys

-- the offset of the first such field from this offset on, with these in front of it; the plan's length where there is none
unfoldable pub late_from : Form → ℕ → List Field → List ℕ → ℕ → ℕ
unfolding field_at overdue
late_from form zero front s at = length s
late_from form (suc n) front s at =
    elim (field_at form s at) [
      | field x next ↦ elim (overdue x front) [ true ↦ at | false ↦ late_from form n (x ∷ front) s next ]
      | refused number offset ↦ length s
    ]

unfoldable pub first_late : List ℕ → ℕ
unfolding late_from form_by
first_late s = late_from (form_by s) (length s) [] s 0

-- whether an answer of the loose reading is found before test 12 finds a field at this offset. Fields are taken from the front,
-- each tested for 2 to 6, then 12, then 7; 8, 9 and acceptance come when all have been.
abbrev pub found_before : List ℕ → ℕ → PlanRead → Bool
found_before s at (accepted p ports flows) = leb (length s) at
found_before s at (rejected number offset) =
    cond (leb number 6) (leb offset at) (cond (eqb number 7) (ltb offset at) (leb (length s) at))

-- what the strict reading answers where the loose one answers this, at being the offset of the first field that should have
-- stood earlier
abbrev pub strictly : List ℕ → ℕ → PlanRead → PlanRead
strictly s at answer = cond (found_before s at answer) answer (rejected out_of_order at)
