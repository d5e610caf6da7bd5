-- `write_older` meets its contract, by whether a flow has too many ports.
use native.Mathlib.Omega.{arith}
use Rattle.converting.specs.laws.Convert.{within_long, within_all}
use Rattle.converting.proofs.written.write_older.Goals as goal

pub returns-then-offset-plan : goal.returns-then-offset-plan
returns-then-offset-plan c = within_long c.args.plan.now c.args.buffer.now _ c.first_field-offset.result c.first_field-offset.ensures c.if-offset-plan.true

pub returns : goal.returns
returns c = within_all c.args.plan.now c.args.buffer.now _ (omega (arith, c.first_field-offset.ensures, c.if-offset-plan.false)) c.write_plan.ensures
