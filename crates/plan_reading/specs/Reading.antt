-- The reading of a whole plan: fields from the front, each tested for 2 to 7; then 8, then 9; the first found is answered.
-- Test 12, of the strict reading only, comes between 6 and 7.
use Rattle.std.specs.Prelude.{ℕ, zero, suc, ◌+◌, List, ◌∷◌, Bool, true, false, cond, not, ◌&&◌, ◌||◌, ltb, eqb, length, get_or}
use Rattle.answers.specs.Refusals.{bad_size, duplicate, repeated_port, incomplete, not_in_plan, out_of_order}
use Rattle.cqf.specs.Bounded.{within, every}
use Rattle.cqf.specs.Limits.{flow_ok}
use Rattle.cqf.specs.Plan.{Plan, port_in}
use Rattle.plan.specs.Bytes.{number2, head_size, tag_at, size_at, whole_at, value_at}
use Rattle.cqf.specs.Form.{Form, older, newer}
use Rattle.plan.specs.Layout.{form_by, Kind, layout}
use Rattle.plan.specs.Field.{Field, FieldRead, field, refused, field_at, route_in}
use Rattle.plan_reading.specs.Key.{header_key, key_of}
use Rattle.plan_reading.specs.Draft.{Draft, blank, has_key, taken, field_repeats, added}

-- a plan has 1 to 16,384 bytes
abbrev pub max_bytes : ℕ
max_bytes = 16384

-- the plan with its numbers of port and flow fields, or a refusal's number and its offset
pub data PlanRead : Type 0 where
  accepted : Plan → (ports flows : ℕ) → PlanRead
  rejected : (number offset : ℕ) → PlanRead

-- how the fields are read: loose, in any order, or strict, in the one of their tags and numbers
pub data Mode : Type 0 where
  loose : Mode
  strict : Mode

-- a plan of the newer form is read strictly in either reading
abbrev pub mode_in : Form → Mode → Mode
mode_in older mode = mode
mode_in newer mode = strict

-- one field: refused, or read with the offset after it and its key
pub data Step : Type 0 where
  stop : (number offset : ℕ) → Step
  more : (next key : ℕ) → Draft → Step

-- the ports of the route in the field of this kind at this offset
abbrev pub route_at : Kind → List ℕ → ℕ → List ℕ
route_at k s at = route_in k (value_at s at)

-- test 12: a field that should have stood earlier, last being the key of the field in front of it (0 for the first). Keys
-- rise with tags and numbers.
abbrev pub late : Mode → ℕ → Field → Bool
late loose last x = false
late strict last x = ltb (key_of x) last

-- tests 6, 12 and 7 of a field that passed 2 to 5
abbrev pub field_step : Mode → List ℕ → (at last : ℕ) → Draft → FieldRead → Step
field_step mode s at last d (refused number offset) = stop number offset
field_step mode s at last d (field x next) =
    cond (taken d x) (stop duplicate at)
    (cond (late mode last x) (stop out_of_order at)
    (cond (field_repeats (route_at x.kind s at)) (stop repeated_port at)
    (more next (key_of x) (added d x (route_at x.kind s at)))))

unfoldable pub step_at : Form → Mode → List ℕ → (at last : ℕ) → Draft → Step
unfolding field_at
step_at form mode s at last d = field_step mode s at last d (field_at form s at)

-- the offset of the first whole field in the bytes, from this offset on, that is sought; the plan's length where none is.
-- The first number bounds how many fields are looked at: the plan's length is enough.
unfoldable pub first_from : (List ℕ → ℕ → Bool) → ℕ → List ℕ → ℕ → ℕ
unfolding whole_at size_at
first_from sought zero s at = length s
first_from sought (suc n) s at =
    elim (whole_at s at) [
      | true ↦ elim (sought s at) [ true ↦ at | false ↦ first_from sought n s (at + head_size + size_at s at) ]
      | false ↦ length s
    ]

abbrev pub first_field : (List ℕ → ℕ → Bool) → List ℕ → ℕ
first_field sought s = first_from sought (length s) s 0

-- a flow of this kind whose route names a port that is not in the plan with these rates
unfoldable pub absent_in : Kind → List ℕ → List ℕ → ℕ → Bool
unfolding value_at every route_in
absent_in k rates s at = eqb (tag_at s at) (layout k).tag && not (every (port_in rates) (route_at k s at))

-- test 9 seeks such a flow, of either form
unfoldable pub names_absent : List ℕ → List ℕ → ℕ → Bool
unfolding absent_in
names_absent rates s at = absent_in Kind.flow rates s at || absent_in Kind.flow2 rates s at

-- whether a flow of number n is in the plan: its period is not 0
abbrev pub has_flow : List ℕ → ℕ → Bool
has_flow periods n = flow_ok n && ltb 0 (get_or (0 ∷ periods) n 0)

-- then the jitter of a flow that is not in the plan with these periods
unfoldable pub jitter_absent : List ℕ → List ℕ → ℕ → Bool
unfolding number2 value_at
jitter_absent periods s at = eqb (tag_at s at) (layout Kind.jitter).tag && not (has_flow periods (number2 (value_at s at) 0))

-- and extra bytes of a port that is not in it
unfoldable pub extra_absent : List ℕ → List ℕ → ℕ → Bool
unfolding number2 value_at
extra_absent rates s at = eqb (tag_at s at) (layout Kind.extra).tag && not (port_in rates (number2 (value_at s at) 0))

-- this offset where it is in the plan, else the next that was sought
abbrev pub or_else : List ℕ → ℕ → ℕ → ℕ
or_else s at next = cond (ltb at (length s)) at next

-- the offset that test 9 finds, the plan's length where it finds none: all routes come before the jitters, and these before the
-- extra bytes
unfoldable pub first_absent : List ℕ → List ℕ → List ℕ → ℕ
unfolding first_from names_absent jitter_absent extra_absent
first_absent rates periods s =
    or_else s (first_field (names_absent rates) s)
    (or_else s (first_field (jitter_absent periods) s)
    (first_field (extra_absent rates) s))

-- all fields are read: tests 8 and 9
unfoldable pub closing : List ℕ → Draft → PlanRead
unfolding first_absent
closing s d =
    cond (not (has_key d header_key) || eqb d.flows 0) (rejected incomplete (length s))
    (cond (ltb (first_absent d.tables.rates d.tables.periods s) (length s))
    (rejected not_in_plan (first_absent d.tables.rates d.tables.periods s))
    (accepted d.tables d.ports d.flows))

-- the fields from this offset on, last being the key of the one in front of it. The first number bounds how many are read: the
-- plan's length is enough.
unfoldable pub read_from : Form → Mode → ℕ → List ℕ → (at last : ℕ) → Draft → PlanRead
unfolding step_at closing
read_from form mode zero s at last d = closing s d
read_from form mode (suc n) s at last d =
    elim (ltb at (length s)) [
      | true ↦
          elim (step_at form mode s at last d) [
            | stop number offset ↦ rejected number offset
            | more next key d' ↦ read_from form mode n s next key d'
          ]
      | false ↦ closing s d
    ]

-- bytes read as a plan of this form
unfoldable pub read_form : Form → Mode → List ℕ → PlanRead
unfolding read_from blank
read_form form mode s =
    elim (within 1 max_bytes (length s)) [ true ↦ read_from form (mode_in form mode) (length s) s 0 0 blank | false ↦ rejected bad_size 0 ]

-- bytes read as a plan of the form that they tell
unfoldable pub read_as_of : Mode → List ℕ → PlanRead
unfolding read_form form_by
read_as_of mode s = read_form (form_by s) mode s

-- the loose reading
unfoldable pub read_plan : List ℕ → PlanRead
unfolding read_as_of
read_plan s = read_as_of loose s
