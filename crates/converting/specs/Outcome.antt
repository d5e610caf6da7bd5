-- An answer of a converter, and the buffer as it is left.
use Rattle.std.specs.Prelude.{ℕ, ◌≡◌, List}
use Rattle.answers.specs.Answer.{Answer}
use Rattle.cqf.specs.Form.{Form}
use Rattle.plan_reading.specs.Reading.{PlanRead}
use Rattle.converting.specs.Convert.{converted_answer, converted_leaves, upgrade_answer, upgrade_leaves, downgrade_answer, downgrade_leaves}

-- of what was read, written in this form
abbrev pub Converts : Form → PlanRead → (buffer : List ℕ) → Answer ℕ → (exit : List ℕ) → Type 0
Converts form read buffer answer exit = (answer ≡ converted_answer form read buffer) × (exit ≡ converted_leaves form read buffer)

abbrev pub Upgrades : (bytes buffer : List ℕ) → Answer ℕ → (exit : List ℕ) → Type 0
Upgrades s buffer answer exit = (answer ≡ upgrade_answer s buffer) × (exit ≡ upgrade_leaves s buffer)

abbrev pub Downgrades : (bytes buffer : List ℕ) → Answer ℕ → (exit : List ℕ) → Type 0
Downgrades s buffer answer exit = (answer ≡ downgrade_answer s buffer) × (exit ≡ downgrade_leaves s buffer)
