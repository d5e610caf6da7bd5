-- Fields that name only ports and flows of the plan: test 9 finds none.
use Rattle.std.specs.Prelude.{ℕ, zero, suc, ◌+◌, ◌≤◌, ◌≡◌, List, [], ◌∷◌, ◌++◌, Bool, true, false, length}
use Rattle.std.proofs.Common.{arith}
use Rattle.plan.specs.Bytes.{head_size, size_at, whole_at}
use Rattle.cqf.specs.Form.{Form}
use Rattle.plan_reading.specs.Part.{parts_of}
use Rattle.plan_reading.specs.Draft.{Draft}
use Rattle.plan_reading.specs.Reading.{route_at, names_absent, jitter_absent, extra_absent, first_absent}
use Rattle.plan_reading.specs.Strict.{Entry, entry_of, fields_from}
use Rattle.plan.specs.laws.Whole.{not_whole}
use Rattle.plan_reading.specs.laws.fields.Passes.{field_is_whole, field_passes}
use Rattle.plan_reading.specs.laws.fields.Ranged.{All}
use Rattle.plan_reading.specs.laws.fields.Kinds.{names_there}
use Rattle.plan_reading.specs.laws.fields.Found.{found_forward}
use Rattle.plan_reading.specs.laws.reading.Walk.{Reads, done, one}
use Rattle.plan_reading.specs.laws.reading.First.{NoneFrom, first_cut, first_past}
use Rattle.plan_reading.specs.laws.reading.Absent.{first_extra, AllThere, NamesPresent}
use Rattle.plan_reading.specs.laws.order.Rows.{row_field}

-- what each part of each field names is in the plan with these rates and periods
pub data AllPresent (rates periods : List ℕ) : List Entry → Type 0 where
  none : AllPresent rates periods []
  more
      : {e : Entry} {es : List Entry}
      → All (NamesPresent rates periods) (parts_of e.field e.route)
      → AllPresent rates periods es
      → AllPresent rates periods (e ∷ es)

pub present_append
    : {rates periods : List ℕ} {es fs : List Entry}
    → AllPresent rates periods es
    → AllPresent rates periods fs
    → AllPresent rates periods (es ++ fs)
present_append none b = b
present_append (more k a) b = more k (present_append a b)

-- neither a field that is not sought, nor the fields after it, nor the plan's end
module _ (sought : List ℕ → ℕ → Bool) (s : List ℕ) (at : ℕ) where
  pub none_at_end : length s ≤ at → NoneFrom sought s at
  none_at_end end = omega (arith, first_cut sought s at (length s) (not_whole s at (omega arith)))

  pub none_more : whole_at s at ≡ true → sought s at ≡ false → NoneFrom sought s (at + head_size + size_at s at) → NoneFrom sought s at
  none_more w front rest = rw (first_past sought s at w front) rest

-- a walk over such fields
module _ (rates periods s : List ℕ) where
  walk_there
      : {form : Form} (n : ℕ) {at : ℕ} {d e : Draft}
      → Reads form s at d e
      → length s ≤ at + n
      → AllPresent rates periods (fields_from form n s at)
      → AllThere rates periods s at
  walk_there n {at} (done same end) enough there =
      record {
        routes = none_at_end (names_absent rates) s at end;
        jitters = none_at_end (jitter_absent periods) s at end;
        extras = none_at_end (extra_absent rates) s at end;
      }
  walk_there zero (one x next less stands fresh no_repeat rest) enough there = absurd (omega arith)
  walk_there {form} (suc n) {at} (one x next less stands fresh no_repeat rest) enough there =
      go (walk_there n rest (omega (arith, found_forward form s at x next stands))) (rw (row_field form n s at x next stands) at there)
    where
      go
          : (AllPresent rates periods (fields_from form n s next) → AllThere rates periods s next)
          → AllPresent rates periods (entry_of x (route_at x.kind s at) ∷ fields_from form n s next)
          → AllThere rates periods s at
      go after (more k others) =
          let r = field_passes form s at x next stands in
          let w = field_is_whole form s at x next stands in
          let here = names_there rates periods s at x r.passes k in
          let all : AllThere rates periods s (at + head_size + size_at s at) = rw r.follows at (after others) in
          record {
            routes = none_more (names_absent rates) s at w here.routes all.routes;
            jitters = none_more (jitter_absent periods) s at w here.jitters all.jitters;
            extras = none_more (extra_absent rates) s at w here.extras all.extras;
          }

  -- test 9 finds none in a plan whose fields name only what is present
  pub none_absent
      : {form : Form} {d e : Draft}
      → Reads form s 0 d e
      → AllPresent rates periods (fields_from form (length s) s 0)
      → length s ≤ first_absent rates periods s
  none_absent reads there =
      let all = walk_there (length s) reads (omega arith) there in
      rw (first_extra rates periods s all.routes all.jitters) all.extras
