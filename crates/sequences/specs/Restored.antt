-- What saving is for: the bytes that it wrote are a plan that either load accepts, and that holds the same.
use Rattle.std.specs.Prelude.{◌≡◌, List, ℕ, ◌≤◌, take, drop}
use Rattle.cqf.specs.Form.{Form, form_number}
use Rattle.cqf.specs.Plan.{Plan}
use Rattle.plan_reading.specs.Reading.{Mode, max_bytes}
use Rattle.answers.specs.Answer.{result}
use Rattle.loading.specs.Outcome.{load_answer, load_leaves, load_form}
use Rattle.saving.specs.Save.{save_answer, save_leaves}
use Rattle.sequences.specs.Reply.{SameAnswers}

-- A buffer as it was and as it is left, with n bytes written. They are no more than a plan may have; either load accepts them with
-- these numbers of port and flow fields and then holds the plan p of this form, whatever was held before, so that every question is
-- answered as by p; and the bytes behind them remain.
pub record Restores (form : Form) (p : Plan) (ports flows : ℕ) (buffer exit : List ℕ) (n : ℕ) : Type 0 where
  pub most : n ≤ max_bytes
  pub accepted : (mode : Mode) → load_answer mode (take n exit) ≡ result (record { ports = ports; flows = flows })
  pub holds : (mode : Mode) (held : Plan) → load_leaves mode held (take n exit) ≡ p
  pub formed : (mode : Mode) (held : ℕ) → load_form mode held (take n exit) ≡ form_number form
  pub alike
      : (mode : Mode) (held : Plan) (number : ℕ)
      → SameAnswers (load_form mode number (take n exit)) (load_leaves mode held (take n exit)) (form_number form) p
  pub rest : drop n exit ≡ drop n buffer

-- so it is in every buffer into which the planner's tables, read in this form, are saved with the answer n
abbrev pub SavedAs : Form → (tables p : Plan) (ports flows : ℕ) → Type 0
SavedAs form tables p ports flows =
    (buffer : List ℕ) (n : ℕ)
    → save_answer form tables buffer ≡ result n
    → Restores form p ports flows buffer (save_leaves form tables buffer) n
