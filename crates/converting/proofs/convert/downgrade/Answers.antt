-- `downgrade` meets its contract, by what the reading answers.
use mathlib.Core.Path.{refl}
use Rattle.std.proofs.lemmas.Result.{err_from_is_err_and}
use Rattle.cqf.specs.Form.{newer}
use Rattle.plan_reading.specs.Reading.{strict}
use Rattle.converting.specs.laws.Convert.{read_refused, downgrade_written, downgrade_refused}
use Rattle.converting.specs.laws.Lent.{read_lent}
use Rattle.converting.proofs.convert.downgrade.Goals as goal

pub returns-in_err-read_form_tables : goal.returns-in_err-read_form_tables
returns-in_err-read_form_tables c =
    let p = err_from_is_err_and c.from_residual.result c.from_residual.ensures.1 in
    rw (p.1, p.2) (downgrade_refused c.args.plan.now c.args.buffer.now _ _ (read_refused newer strict c.args.plan.now _ _ c.in_err-read_form_tables.ensures.read.answers))

pub write_older-requires : goal.write_older-requires
write_older-requires c = (read_lent newer strict c.args.plan.now _ _ c.lend.ensures refl c.in_ok-read_form_tables.ensures.read).valid

pub returns : goal.returns
returns c =
    downgrade_written c.args.plan.now c.args.buffer.now _ (read_lent newer strict c.args.plan.now _ _ c.lend.ensures refl c.in_ok-read_form_tables.ensures.read)
    c.write_older.ensures
