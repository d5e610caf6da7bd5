-- What a load answers and leaves, for any held plan and any bytes.
use Rattle.std.specs.Prelude.{ℕ, List, [], ◌∷◌}
use Rattle.answers.specs.Answer.{Answer, result, refusal}
use Rattle.cqf.specs.Plan.{Plan}
use Rattle.cqf.specs.Form.{Form, form_number}
use Rattle.plan.specs.Layout.{form_by}
use Rattle.plan_reading.specs.Reading.{PlanRead, accepted, rejected, Mode, read_form, read_as_of}

-- the load: the numbers of port and flow fields, or 1 to 9, or 12, with the offset
pub record Fields : Type 0 where
  pub ports : ℕ
  pub flows : ℕ

abbrev pub reading_answer : PlanRead → Answer Fields
reading_answer (accepted p ports flows) = result (record { ports = ports; flows = flows })
reading_answer (rejected number offset) = refusal number (offset ∷ [])

abbrev pub reading_leaves : Plan → PlanRead → Plan
reading_leaves held (accepted p ports flows) = p
reading_leaves held (rejected number offset) = held

-- the form's number beside it: that of the bytes read, or the one before
abbrev pub reading_form : (held read : ℕ) → PlanRead → ℕ
reading_form held read (accepted p ports flows) = read
reading_form held read (rejected number offset) = held

-- bytes read as a plan of this form, in this reading: the answer, the plan held after it, and the form's number beside it
unfoldable pub form_answer : Form → Mode → List ℕ → Answer Fields
unfolding read_form
form_answer form mode s = reading_answer (read_form form mode s)

unfoldable pub form_leaves : Form → Mode → Plan → List ℕ → Plan
unfolding read_form
form_leaves form mode held s = reading_leaves held (read_form form mode s)

unfoldable pub form_left : Form → Mode → ℕ → List ℕ → ℕ
unfolding read_form
form_left form mode held s = reading_form held (form_number form) (read_form form mode s)

-- a load in this reading
unfoldable pub load_answer : Mode → List ℕ → Answer Fields
unfolding read_as_of
load_answer mode s = reading_answer (read_as_of mode s)

-- the plan held after a load: the one read, or the one held before
unfoldable pub load_leaves : Mode → Plan → List ℕ → Plan
unfolding read_as_of
load_leaves mode held s = reading_leaves held (read_as_of mode s)

-- the form's number beside it
unfoldable pub load_form : Mode → ℕ → List ℕ → ℕ
unfolding read_as_of
load_form mode held s = reading_form held (form_number (form_by s)) (read_as_of mode s)
