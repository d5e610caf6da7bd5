-- A row of fields, each in range, and the draft that it leaves.
use Rattle.std.specs.Prelude.{◌≡◌, List, [], ◌∷◌, false}
use Rattle.cqf.specs.Form.{Form}
use Rattle.plan_reading.specs.Draft.{Draft, field_repeats, added}
use Rattle.plan_reading.specs.Ranges.{NumbersOk, RouteFits}
use Rattle.plan_reading.specs.Strict.{Entry}

-- a field of a plan of this form that the tests 4, 5 and 7 pass
pub record EntryOk (form : Form) (e : Entry) : Type 0 where
  pub numbers : NumbersOk form e.field
  pub fits : RouteFits e.field e.route
  pub no_repeat : field_repeats e.route ≡ false

pub data AllOk (form : Form) : List Entry → Type 0 where
  none : AllOk form []
  more : {e : Entry} {es : List Entry} → EntryOk form e → AllOk form es → AllOk form (e ∷ es)

-- the draft with all of them added
unfoldable pub added_all : Draft → List Entry → Draft
unfolding added
added_all d [] = d
added_all d (e ∷ es) = added_all (added d e.field e.route) es
