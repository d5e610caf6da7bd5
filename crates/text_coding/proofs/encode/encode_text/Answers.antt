-- `encode_text` meets its contract, by what the reading answers.
use Rattle.std.proofs.Common.{◌≡◌, ℕ, List, Ok, sym, ◌∙◌}
use Rattle.tables.specs.Tables.{plan_of}
use Rattle.plan_text.specs.Line.{form_by}
use Rattle.plan_text.specs.Outcome.{TextReads}
use Rattle.plan_text.specs.declared.held.TextOutcome.{TextOutcome}
use Rattle.plan_text.specs.declared.text.TextPlan.{TextPlan}
use Rattle.text_coding.specs.laws.Encode.{Read, read_plan, read_refused, plan_encodes, refused_encodes}
use Rattle.text_coding.proofs.encode.encode_text.Goals as goal

-- a plan was read
held : (text : List ℕ) (o : TextOutcome) (plan : TextPlan) → TextReads text o → o.answer ≡ Ok plan → Read text (form_by plan.newer) (plan_of o.planner)
held text o plan r e = read_plan text plan.newer (plan_of o.planner) (sym e ∙ r.answers) r.leaves

pub write_plan-requires : goal.write_plan-requires
write_plan-requires c = (held c.args.text.now c.read_text-outcome.result c.in-Ok.plan c.read_text-outcome.ensures c.in-Ok.is).valid

pub returns-in-Ok : goal.returns-in-Ok
returns-in-Ok c =
    plan_encodes c.args.text.now c.args.out.now (held c.args.text.now c.read_text-outcome.result c.in-Ok.plan c.read_text-outcome.ensures c.in-Ok.is) c.form_of.ensures c.write_plan.ensures

pub returns-in-Err : goal.returns-in-Err
returns-in-Err c =
    let r = c.in-Err.refusal in
    refused_encodes c.args.text.now c.args.out.now r.line r.fault r.item r.value
    (read_refused c.args.text.now r (sym c.in-Err.is ∙ c.read_text-outcome.ensures.answers))
