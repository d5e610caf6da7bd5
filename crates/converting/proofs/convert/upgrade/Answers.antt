-- `upgrade` meets its contract, by what the reading answers.
use mathlib.Core.Path.{refl}
use Rattle.std.proofs.lemmas.Result.{err_from_is_err_and}
use Rattle.cqf.specs.Form.{older}
use Rattle.plan_reading.specs.Reading.{loose}
use Rattle.converting.specs.laws.Convert.{read_refused, upgrade_written, upgrade_refused}
use Rattle.converting.specs.laws.Lent.{read_lent}
use Rattle.converting.proofs.convert.upgrade.Goals as goal

pub returns-in_err-read_form_tables : goal.returns-in_err-read_form_tables
returns-in_err-read_form_tables c =
    let p = err_from_is_err_and c.from_residual.result c.from_residual.ensures.1 in
    rw (p.1, p.2) (upgrade_refused c.args.plan.now c.args.buffer.now _ _ (read_refused older loose c.args.plan.now _ _ c.in_err-read_form_tables.ensures.read.answers))

pub write_plan-requires : goal.write_plan-requires
write_plan-requires c = (read_lent older loose c.args.plan.now _ _ c.lend.ensures refl c.in_ok-read_form_tables.ensures.read).valid

pub returns : goal.returns
returns c =
    upgrade_written c.args.plan.now c.args.buffer.now _ (read_lent older loose c.args.plan.now _ _ c.lend.ensures refl c.in_ok-read_form_tables.ensures.read)
    c.write_plan.ensures
