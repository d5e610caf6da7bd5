-- `write_plan` meets its contract: the plan is valid, so that saving answers with a length or that the buffer is too short.
use Rattle.plan.specs.Answer.{form_of}
use Rattle.tables.specs.Tables.{plan_of}
use Rattle.text_coding.specs.laws.Encode.{lent_plan, saved_encodes, never_none}
use Rattle.text_coding.proofs.encode.write_plan.Goals as goal

pub returns-in-Ok : goal.returns-in-Ok
returns-in-Ok c =
    let plan = lent_plan c.args.planner.now c.lend.result c.upto.result c.lend.ensures c.held_top-top.ensures c.upto.ensures in
    saved_encodes (form_of c.args.form) (plan_of c.args.planner.now) c.args.out.now c.requires (rw plan at c.in-Ok.ensures)

pub returns-in-Err-ShortBuffer : goal.returns-in-Err-ShortBuffer
returns-in-Err-ShortBuffer c =
    let plan = lent_plan c.args.planner.now c.lend.result c.upto.result c.lend.ensures c.held_top-top.ensures c.upto.ensures in
    let saves = rw c.in-Err-ShortBuffer.field-0-is at c.in-Err-ShortBuffer.ensures in
    saved_encodes (form_of c.args.form) (plan_of c.args.planner.now) c.args.out.now c.requires (rw plan at saves)

pub returns-in-Err-NoPlan : goal.returns-in-Err-NoPlan
returns-in-Err-NoPlan c =
    let plan = lent_plan c.args.planner.now c.lend.result c.upto.result c.lend.ensures c.held_top-top.ensures c.upto.ensures in
    let saves = rw c.in-Err-NoPlan.field-0-is at c.in-Err-NoPlan.ensures in
    let none = rw plan at saves in
    absurd (never_none (form_of c.args.form) (plan_of c.args.planner.now) c.args.out.now c.requires none.0)
