-- An answer of saving, and the buffer as it is left.
use Rattle.std.specs.Prelude.{ℕ, ◌≡◌, List}
use Rattle.cqf.specs.Form.{Form}
use Rattle.cqf.specs.Plan.{Plan}
use Rattle.answers.specs.Answer.{Answer}
use Rattle.saving.specs.Save.{save_answer, save_leaves}

abbrev pub Saves : Form → Plan → (buffer : List ℕ) → Answer ℕ → (exit : List ℕ) → Type 0
Saves form p buffer answer exit = (answer ≡ save_answer form p buffer) × (exit ≡ save_leaves form p buffer)
