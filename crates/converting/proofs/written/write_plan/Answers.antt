-- `write_plan` meets its contract: the plan is valid, so that saving answers with a length or that the buffer is too short.
use Rattle.plan.specs.Answer.{form_of}
use Rattle.converting.specs.laws.Convert.{saved_converts, never_none}
use Rattle.converting.proofs.written.write_plan.Goals as goal

pub unreachable-requires : goal.unreachable-requires
unreachable-requires c =
    never_none (form_of c.args.form) _ c.args.buffer.now c.requires (rw c.in-Err-NoPlan.field-0-is at c.in-Err-NoPlan.ensures.0)

pub returns-in-Ok : goal.returns-in-Ok
returns-in-Ok c = saved_converts (form_of c.args.form) _ c.args.buffer.now c.requires c.in-Ok.ensures

pub returns-in-Err-ShortBuffer : goal.returns-in-Err-ShortBuffer
returns-in-Err-ShortBuffer c =
    saved_converts (form_of c.args.form) _ c.args.buffer.now c.requires (rw c.in-Err-ShortBuffer.field-0-is at c.in-Err-ShortBuffer.ensures)
