-- What saving answers and leaves in the lent buffer, for any held plan, the form that it was read in and any buffer. Tables that are not valid count as no plan
-- held (refusal 20).
use Rattle.std.specs.Prelude.{ℕ, List, [], ◌∷◌, cond}
use Rattle.cqf.specs.Form.{Form}
use Rattle.cqf.specs.Plan.{Plan, valid_plan}
use Rattle.plan_reading.specs.Saved.{form_bytes}
use Rattle.writing.specs.Laid.{laid}
use Rattle.writing.specs.Answer.{written_answer}
use Rattle.answers.specs.Answer.{Answer, refusal}
use Rattle.answers.specs.Refusals.{no_plan_held}

-- 20, then 13
unfoldable pub save_answer : Form → Plan → (buffer : List ℕ) → Answer ℕ
unfolding valid_plan form_bytes
save_answer form p buffer = cond (valid_plan p) (written_answer (form_bytes form p) buffer) (refusal no_plan_held (0 ∷ []))

-- the saved plan over the buffer's first bytes; the buffer as it was where saving is refused
unfoldable pub save_leaves : Form → Plan → (buffer : List ℕ) → List ℕ
unfolding valid_plan form_bytes laid
save_leaves form p buffer = cond (valid_plan p) (laid (form_bytes form p) buffer) buffer
