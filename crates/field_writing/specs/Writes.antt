-- What a call that writes one field answers, and what it leaves in the lent buffer. Whether a field is good is asked of the reading:
-- its bytes are read as a plan's field of their form at offset 0.
use Rattle.std.specs.Prelude.{ℕ, ◌≡◌, List, [], ◌∷◌, cond}
use Rattle.answers.specs.Answer.{Answer, refusal}
use Rattle.answers.specs.Refusals.{repeated_port}
use Rattle.cqf.specs.Form.{Form}
use Rattle.plan.specs.Layout.{Kind, layout}
use Rattle.plan.specs.Field.{FieldRead, field, refused, field_at}
use Rattle.plan_reading.specs.Draft.{field_repeats}
use Rattle.plan_reading.specs.Reading.{route_at}
use Rattle.writing.specs.Fields.{routed_bytes}
use Rattle.writing.specs.Answer.{written_answer, written_leaves}

-- of bytes that are read so: the refusal of tests 2 to 5, then that of test 7; then 13 with the length needed, or the length written
abbrev pub read_answer : FieldRead → (bs buffer : List ℕ) → Answer ℕ
read_answer (refused number offset) bs buffer = refusal number (0 ∷ [])
read_answer (field x next) bs buffer =
    cond (field_repeats (route_at x.kind bs 0)) (refusal repeated_port (0 ∷ [])) (written_answer bs buffer)

-- of the bytes of a field of this form
unfoldable pub bytes_answer : Form → (bs buffer : List ℕ) → Answer ℕ
unfolding field_at
bytes_answer form bs buffer = read_answer (field_at form bs 0) bs buffer

-- they stand over the buffer's first ones where the answer is a length; where it is a refusal the buffer is as it was
abbrev pub bytes_leaves : Form → (bs buffer : List ℕ) → List ℕ
bytes_leaves form bs buffer = written_leaves bs buffer (bytes_answer form bs buffer)

abbrev pub WritesBytes : Form → (bs buffer : List ℕ) → Answer ℕ → (exit : List ℕ) → Type 0
WritesBytes form bs buffer answer exit = (answer ≡ bytes_answer form bs buffer) × (exit ≡ bytes_leaves form bs buffer)

-- the field of this kind with these numbers, over this route
abbrev pub write_answer : Kind → (numbers route buffer : List ℕ) → Answer ℕ
write_answer k ns r buffer = bytes_answer (layout k).form (routed_bytes k ns r) buffer

abbrev pub write_leaves : Kind → (numbers route buffer : List ℕ) → List ℕ
write_leaves k ns r buffer = bytes_leaves (layout k).form (routed_bytes k ns r) buffer

abbrev pub Writes : Kind → (numbers route buffer : List ℕ) → Answer ℕ → (exit : List ℕ) → Type 0
Writes k ns r buffer answer exit = (answer ≡ write_answer k ns r buffer) × (exit ≡ write_leaves k ns r buffer)
