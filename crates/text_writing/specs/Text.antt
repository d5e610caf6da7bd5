-- What writing a plan as text answers and leaves in the lent buffer, for any held plan, its form and any buffer. Tables that are not
-- valid count as no plan held (refusal 20).
use Rattle.std.specs.Prelude.{ℕ, ◌≡◌, List, [], ◌∷◌, cond}
use Rattle.answers.specs.Answer.{Answer, refusal}
use Rattle.answers.specs.Refusals.{no_plan_held}
use Rattle.cqf.specs.Form.{Form}
use Rattle.cqf.specs.Plan.{Plan, valid_plan}
use Rattle.plan_text.specs.Print.{text_of}
use Rattle.writing.specs.Answer.{written_answer}
use Rattle.writing.specs.Laid.{laid}

-- 20, then 13
unfoldable pub text_answer : Form → Plan → (buffer : List ℕ) → Answer ℕ
text_answer form p buffer = cond (valid_plan p) (written_answer (text_of form p) buffer) (refusal no_plan_held (0 ∷ []))

-- the text over the buffer's first bytes; the buffer as it was where the writing is refused
unfoldable pub text_leaves : Form → Plan → (buffer : List ℕ) → List ℕ
text_leaves form p buffer = cond (valid_plan p) (laid (text_of form p) buffer) buffer

abbrev pub WritesText : Form → Plan → (buffer : List ℕ) → Answer ℕ → (exit : List ℕ) → Type 0
WritesText form p buffer answer exit = (answer ≡ text_answer form p buffer) × (exit ≡ text_leaves form p buffer)
