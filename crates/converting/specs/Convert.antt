-- What the converters answer and leave in the lent buffer, for any bytes and any buffer. Each knows the tags of the form alone that it
-- reads, whatever the bytes begin with.
use Rattle.std.specs.Prelude.{ℕ, List, [], ◌∷◌, cond, ltb, length}
use Rattle.answers.specs.Answer.{Answer, refusal}
use Rattle.answers.specs.Refusals.{long_route}
use Rattle.cqf.specs.Form.{Form, older, newer}
use Rattle.plan_reading.specs.Overlong.{overlong}
use Rattle.plan_reading.specs.Reading.{PlanRead, accepted, rejected, loose, strict, first_from, first_field, read_form}
use Rattle.plan_reading.specs.Saved.{form_bytes}
use Rattle.writing.specs.Laid.{laid}
use Rattle.writing.specs.Answer.{written_answer}

-- what was read, written in this form: 13 exactly where the buffer is shorter
abbrev pub converted_answer : Form → PlanRead → (buffer : List ℕ) → Answer ℕ
converted_answer form (accepted p ports flows) buffer = written_answer (form_bytes form p) buffer
converted_answer form (rejected number offset) buffer = refusal number (offset ∷ [])

-- its bytes over the buffer's first ones; the buffer as it was where the conversion is refused
abbrev pub converted_leaves : Form → PlanRead → (buffer : List ℕ) → List ℕ
converted_leaves form (accepted p ports flows) buffer = laid (form_bytes form p) buffer
converted_leaves form (rejected number offset) buffer = buffer

-- from the older form, read loosely, to the newer one
unfoldable pub upgrade_answer : (bytes buffer : List ℕ) → Answer ℕ
unfolding read_form form_bytes
upgrade_answer s buffer = converted_answer newer (read_form older loose s) buffer

unfoldable pub upgrade_leaves : (bytes buffer : List ℕ) → List ℕ
unfolding read_form form_bytes laid
upgrade_leaves s buffer = converted_leaves newer (read_form older loose s) buffer

-- the offset of the first flow over more ports than the older form allows; the plan's length where there is none
abbrev pub first_long : List ℕ → ℕ
first_long s = first_field overlong s

-- an accepted plan with such a flow is refused
abbrev pub within_older : List ℕ → PlanRead → PlanRead
within_older s (accepted p ports flows) = cond (ltb (first_long s) (length s)) (rejected long_route (first_long s)) (accepted p ports flows)
within_older s (rejected number offset) = rejected number offset

-- from the newer form back: 16 after the refusals of reading
unfoldable pub downgrade_answer : (bytes buffer : List ℕ) → Answer ℕ
unfolding read_form form_bytes first_from overlong
downgrade_answer s buffer = converted_answer older (within_older s (read_form newer strict s)) buffer

unfoldable pub downgrade_leaves : (bytes buffer : List ℕ) → List ℕ
unfolding read_form form_bytes first_from overlong laid
downgrade_leaves s buffer = converted_leaves older (within_older s (read_form newer strict s)) buffer
