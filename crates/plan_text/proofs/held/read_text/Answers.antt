-- `read_text` meets its contract: what was read goes into the planner where the text says a plan.
use Rattle.std.proofs.Common.{◌≡◌, Ok, refl, sym, ap, ap₂, ◌∙◌}
use Rattle.cqf.specs.Form.{form_fits}
use Rattle.cqf.specs.Plan.{Plan}
use Rattle.tables.specs.laws.Forms.{fits_plan}
use Rattle.plan_text.specs.Line.{form_by}
use Rattle.plan_text.specs.Text.{read_text}
use Rattle.plan_text.specs.Drafting.{draft_of, reading_of}
use Rattle.plan_text.specs.laws.Whole.{text_said}
use Rattle.plan_text.specs.laws.Outcome.{plan_reads}
use Rattle.plan_text.proofs.held.read_text.Goals as goal

pub returns-in-Ok : goal.returns-in-Ok
returns-in-Ok c =
    let text = c.args.text.now in
    let newer = c.in-Ok.plan.newer in
    let e : reading_of (Ok c.in-Ok.plan) (draft_of c.read_lines-answer.new.draft).tables ≡ read_text text = c.in-Ok.ensures in
    let held = c.planner_of-planner.ensures in
    let fits = (text_said text (form_by newer) (draft_of c.read_lines-answer.new.draft).tables (sym e)).fits in
    plan_reads text (record { planner = c.planner_of-planner.result; answer = Ok c.in-Ok.plan }) newer (draft_of c.read_lines-answer.new.draft).tables e refl (fits_plan c.planner_of-planner.result (ap₂ form_fits held.form (ap (λ (p : Plan). p.hops) held.tables) ∙ fits) ∙ held.tables) held.form
