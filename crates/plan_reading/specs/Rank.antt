-- The order in which the fields of a strict plan stand: the header first, then the ports, then the flows, each by rising number,
-- then the fields of later tags by tag and number. So it is by tag, and within a tag by number.
use Rattle.std.specs.Prelude.{ℕ, Bool, cond, ◌&&◌, ◌||◌, ltb, eqb, get_or}
use Rattle.plan.specs.Layout.{layout}
use Rattle.plan.specs.Field.{Field}

-- a field's tag
abbrev pub tag_of : Field → ℕ
tag_of x = (layout x.kind).tag

-- its number within its tag; 0 for a field of which a plan has one only
abbrev pub number_of : Field → ℕ
number_of x = cond (layout x.kind).numbered (get_or x.numbers 0 0) 0

-- a strict plan that has both has x before y
abbrev pub before : Field → Field → Bool
before x y = ltb (tag_of x) (tag_of y) || (eqb (tag_of x) (tag_of y) && ltb (number_of x) (number_of y))
