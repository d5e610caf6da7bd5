-- Document 01's number and values for each case of a load's answer.
use Rattle.std.specs.Prelude.{ℕ, ◌≡◌, List, [], ◌∷◌, Bool, true, false, Result, Ok, Err}
use Rattle.cqf.specs.Plan.{Plan}
use Rattle.cqf.specs.Form.{Form}
use Rattle.plan.specs.Answer.{fault_number}
use Rattle.plan_reading.specs.Reading.{Mode, loose, strict}
use Rattle.tables.specs.Tables.{plan_of}
use Rattle.answers.specs.Answer.{Answer, result, refusal}
use Rattle.loading.specs.Outcome.{Fields, form_answer, form_leaves, form_left, load_answer, load_leaves, load_form}
use Rattle.plan.specs.declared.Refusal.{Refusal}
use Rattle.loading.specs.declared.Loaded.{Loaded}
use Rattle.loading.specs.declared.LoadOutcome.{LoadOutcome}

abbrev pub load_of : Result Loaded Refusal → Answer Fields
load_of (Ok l) = result (record { ports = l.ports; flows = l.flows })
load_of (Err r) = refusal (fault_number r.fault) (r.offset ∷ [])

-- the reading that is strict or not
abbrev pub mode_of : Bool → Mode
mode_of true = strict
mode_of false = loose

-- a load of these bytes in this reading by a planner that holds this plan with this form's number: the plan and the form's number
-- that it leaves, and its answer
pub record Loads (mode : Mode) (held : Plan) (form : ℕ) (bytes : List ℕ) (outcome : LoadOutcome) : Type 0 where
  pub leaves : plan_of outcome.planner ≡ load_leaves mode held bytes
  pub formed : outcome.planner.form ≡ load_form mode form bytes
  pub answers : load_of outcome.answer ≡ load_answer mode bytes

-- the same of bytes read as a plan of this form
pub record LoadsForm (form : Form) (mode : Mode) (held : Plan) (number : ℕ) (bytes : List ℕ) (outcome : LoadOutcome) : Type 0 where
  pub leaves : plan_of outcome.planner ≡ form_leaves form mode held bytes
  pub formed : outcome.planner.form ≡ form_left form mode number bytes
  pub answers : load_of outcome.answer ≡ form_answer form mode bytes
