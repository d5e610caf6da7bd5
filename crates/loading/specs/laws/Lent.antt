-- Laws of a load into lent columns, by what its bytes are read as.
use Rattle.std.specs.Prelude.{ℕ, ◌≡◌, true, List, [], ◌∷◌, Result}
use Rattle.std.proofs.Math.Path.{sym, ap}
use Rattle.std.proofs.Common.{◌∙◌}
use Rattle.answers.specs.Answer.{result, refusal}
use Rattle.cqf.specs.Plan.{Plan, no_plan}
use Rattle.cqf.specs.Form.{Form, form_number, form_fits}
use Rattle.plan.specs.Layout.{form_by}
use Rattle.plan_reading.specs.Reading.{PlanRead, accepted, rejected, Mode, read_form, read_as_of}
use Rattle.loading.specs.Outcome.{reading_answer, reading_leaves, reading_form, form_answer, form_leaves, load_answer, load_leaves, load_form}
use Rattle.loading.specs.Answer.{load_of}
use Rattle.loading.specs.Lent.{Lent, lent_plan, LoadsLent, ReadsForm}
use Rattle.plan.specs.declared.Refusal.{Refusal}
use Rattle.loading.specs.declared.Loaded.{Loaded}

-- the reading by the form that the bytes tell
told_read : (form : Form) (mode : Mode) (s : List ℕ) {r : PlanRead} → form ≡ form_by s → read_form form mode s ≡ r → read_as_of mode s ≡ r
unfolding read_as_of
told_read form mode s told e = ap (λ (f : Form). read_form f mode s) (sym told) ∙ e

-- tables that fit their form hold the plan of their columns
pub fits_lent : (l : Lent) → form_fits l.form l.tables.hops ≡ true → lent_plan l ≡ l.tables
fits_lent l fits = rw fits

module _ (form : Form) (mode : Mode) (s : List ℕ) (told : form ≡ form_by s) {answer : Result Loaded Refusal} where
  -- a refusal leaves every number as it came
  pub refused_lent
      : (entry : Lent) (n o : ℕ)
      → read_form form mode s ≡ rejected n o
      → load_of answer ≡ refusal n (o ∷ [])
      → LoadsLent mode entry s entry answer
  unfolding load_leaves load_form load_answer
  refused_lent entry n o read answered =
      let e = told_read form mode s told read in
      record {
        leaves = sym (ap (reading_leaves entry.tables) e);
        formed = sym (ap (reading_form entry.form (form_number (form_by s))) e);
        holds = sym (ap (reading_leaves (lent_plan entry)) e);
        answers = answered ∙ sym (ap reading_answer e);
      }

  -- an accepted plan is in the columns, and so is its form's number
  pub accepted_lent
      : (entry exit : Lent) (ports flows : ℕ)
      → read_form form mode s ≡ accepted exit.tables ports flows
      → exit.form ≡ form_number form
      → form_fits (form_number form) exit.tables.hops ≡ true
      → load_of answer ≡ result (record { ports = ports; flows = flows })
      → LoadsLent mode entry s exit answer
  unfolding load_leaves load_form load_answer
  accepted_lent entry exit ports flows read number fits answered =
      let e = told_read form mode s told read in
      record {
        leaves = sym (ap (reading_leaves entry.tables) e);
        formed = number ∙ ap form_number told ∙ sym (ap (reading_form entry.form (form_number (form_by s))) e);
        holds = fits_lent exit (rw number fits) ∙ sym (ap (reading_leaves (lent_plan entry)) e);
        answers = answered ∙ sym (ap reading_answer e);
      }

-- bytes read as a plan of one form
module _ (form : Form) (mode : Mode) (s : List ℕ) {exit : Plan} {answer : Result Loaded Refusal} where
  pub refused_form
      : (n o : ℕ)
      → read_form form mode s ≡ rejected n o
      → exit ≡ no_plan
      → load_of answer ≡ refusal n (o ∷ [])
      → ReadsForm form mode s exit answer
  unfolding form_leaves form_answer
  refused_form n o e none answered =
      record { leaves = none ∙ sym (ap (reading_leaves no_plan) e); answers = answered ∙ sym (ap reading_answer e) }

  pub accepted_form
      : (ports flows : ℕ)
      → read_form form mode s ≡ accepted exit ports flows
      → load_of answer ≡ result (record { ports = ports; flows = flows })
      → ReadsForm form mode s exit answer
  unfolding form_leaves form_answer
  accepted_form ports flows e answered =
      record { leaves = sym (ap (reading_leaves no_plan) e); answers = answered ∙ sym (ap reading_answer e) }
