-- A valid plan is written.
use Rattle.std.proofs.Common.{refl, ap}
use Rattle.cqf.specs.Form.{form_from}
use Rattle.tables.specs.Tables.{plan_of}
use Rattle.saving.specs.Answer.{save_of}
use Rattle.normalize.specs.laws.Front.{in_front, written}
use Rattle.normalize.proofs.saved.Goals as goal

pub unwrap-requires : goal.unwrap-requires
unwrap-requires c =
    let a = c.args in
    written (form_from a.held.planner.form) (plan_of a.held.planner) a.buffer.now a.held.valid a.held.short c.requires c.save.ensures.0 c.save.ensures.1 _ refl

pub returns : goal.returns
returns c =
    let a = c.args in
    in_front (form_from a.held.planner.form) (plan_of a.held.planner) a.buffer.now a.held.valid a.held.short c.requires c.save.ensures.0 c.save.ensures.1 _ (ap save_of c.unwrap.ensures)
