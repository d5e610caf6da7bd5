-- What the reading of a text answers, and what it leaves in a planner: the plan and its form, or nothing where the text is refused.
use Rattle.std.specs.Prelude.{Result, Ok, Err, ℕ, ◌≡◌, Bool, true, false, List}
use Rattle.cqf.specs.Form.{Form, older, newer, form_number}
use Rattle.cqf.specs.Plan.{Plan, no_plan}
use Rattle.tables.specs.Tables.{plan_of}
use Rattle.plan_text.specs.Text.{Reading, reads, rejected, read_text}
use Rattle.plan_text.specs.declared.refusal.TextRefusal.{TextRefusal}
use Rattle.plan_text.specs.declared.text.TextPlan.{TextPlan}
use Rattle.plan_text.specs.declared.held.TextOutcome.{TextOutcome}

abbrev pub is_newer : Form → Bool
is_newer older = false
is_newer newer = true

abbrev pub text_answer : Reading → Result TextPlan TextRefusal
text_answer (reads form p) = Ok (record { newer = is_newer form })
text_answer (rejected line fault item value) = Err (record { line = line; fault = fault; item = item; value = value })

abbrev pub text_leaves : Reading → Plan
text_leaves (reads form p) = p
text_leaves (rejected line fault item value) = no_plan

abbrev pub text_form : Reading → ℕ
text_form (reads form p) = form_number form
text_form (rejected line fault item value) = 0

pub record TextReads (text : List ℕ) (outcome : TextOutcome) : Type 0 where
  pub answers : outcome.answer ≡ text_answer (read_text text)
  pub leaves : plan_of outcome.planner ≡ text_leaves (read_text text)
  pub formed : outcome.planner.form ≡ text_form (read_text text)
