-- Laws of a load, by what its bytes are read as.
use Rattle.std.specs.Prelude.{ℕ, ◌≡◌, List, [], ◌∷◌}
use Rattle.std.proofs.Math.Path.{sym}
use Rattle.std.proofs.Common.{ap, ◌∙◌}
use Rattle.cqf.specs.Plan.{Plan}
use Rattle.cqf.specs.Form.{Form, form_number}
use Rattle.plan.specs.Layout.{form_by}
use Rattle.plan_reading.specs.Reading.{accepted, rejected, Mode, read_form, read_as_of}
use Rattle.tables.specs.Tables.{plan_of}
use Rattle.answers.specs.Answer.{result, refusal}
use Rattle.loading.specs.Outcome.{reading_answer, reading_leaves, reading_form, form_answer, form_leaves, form_left, load_answer, load_leaves, load_form}
use Rattle.loading.specs.Answer.{load_of, Loads, LoadsForm}
use Rattle.loading.specs.declared.LoadOutcome.{LoadOutcome}

-- bytes read as a plan of this form
module _ (form : Form) (mode : Mode) (s : List ℕ) (outcome : LoadOutcome) {held : Plan} {number : ℕ} where
  -- a refusal keeps the plan held before, and its form
  pub refused_loads
      : (n o : ℕ)
      → read_form form mode s ≡ rejected n o
      → plan_of outcome.planner ≡ held
      → outcome.planner.form ≡ number
      → load_of outcome.answer ≡ refusal n (o ∷ [])
      → LoadsForm form mode held number s outcome
  unfolding form_leaves form_left form_answer
  refused_loads n o e plan formed answer =
      record {
        leaves = plan ∙ sym (ap (reading_leaves held) e);
        formed = formed ∙ sym (ap (reading_form number (form_number form)) e);
        answers = answer ∙ sym (ap reading_answer e);
      }

  -- an accepted plan is held, and so is its form
  pub accepted_loads
      : (p : Plan) (ports flows : ℕ)
      → read_form form mode s ≡ accepted p ports flows
      → plan_of outcome.planner ≡ p
      → outcome.planner.form ≡ form_number form
      → load_of outcome.answer ≡ result (record { ports = ports; flows = flows })
      → LoadsForm form mode held number s outcome
  unfolding form_leaves form_left form_answer
  accepted_loads p ports flows e plan formed answer =
      record {
        leaves = plan ∙ sym (ap (reading_leaves held) e);
        formed = formed ∙ sym (ap (reading_form number (form_number form)) e);
        answers = answer ∙ sym (ap reading_answer e);
      }

-- a load reads its bytes as a plan of the form that they tell
pub told_loads
    : (form : Form) (mode : Mode) (held : Plan) (number : ℕ) (s : List ℕ) (outcome : LoadOutcome)
    → form ≡ form_by s
    → LoadsForm form mode held number s outcome
    → Loads mode held number s outcome
unfolding form_leaves form_left form_answer load_leaves load_form load_answer read_as_of
told_loads form mode held number s outcome told l =
    record {
      leaves = l.leaves ∙ ap (λ (f : Form). reading_leaves held (read_form f mode s)) told;
      formed = l.formed ∙ ap (λ (f : Form). reading_form number (form_number f) (read_form f mode s)) told;
      answers = l.answers ∙ ap (λ (f : Form). reading_answer (read_form f mode s)) told;
    }

-- the plan that an accepting load leaves, and the answer of a refusing one
pub accepted_leaves
    : (mode : Mode) (held : Plan) (s : List ℕ) (p : Plan) (ports flows : ℕ)
    → read_as_of mode s ≡ accepted p ports flows
    → load_leaves mode held s ≡ p
unfolding load_leaves
accepted_leaves mode held s p ports flows e = ap (reading_leaves held) e

pub refused_answer : (mode : Mode) (s : List ℕ) (n o : ℕ) → read_as_of mode s ≡ rejected n o → load_answer mode s ≡ refusal n (o ∷ [])
unfolding load_answer
refused_answer mode s n o e = ap reading_answer e
