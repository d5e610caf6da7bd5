-- A valid plan is written.
use Rattle.std.proofs.Common.{refl, ap}
use Rattle.cqf.specs.Form.{form_from}
use Rattle.tables.specs.Tables.{plan_of}
use Rattle.text_writing.specs.Answer.{text_answer_of}
use Rattle.decode.specs.laws.Front.{in_front, written}
use Rattle.decode.proofs.written.Goals as goal

pub unwrap-requires : goal.unwrap-requires
unwrap-requires c =
    let a = c.args in
    written (form_from a.held.planner.form) (plan_of a.held.planner) a.buffer.now a.held.valid c.requires c.write_plan.ensures.0 c.write_plan.ensures.1 _ refl

pub returns : goal.returns
returns c =
    let a = c.args in
    in_front (form_from a.held.planner.form) (plan_of a.held.planner) a.buffer.now a.held.valid c.requires c.write_plan.ensures.0 c.write_plan.ensures.1 _ (ap text_answer_of c.unwrap.ensures)
