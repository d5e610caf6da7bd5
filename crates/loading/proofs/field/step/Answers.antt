-- `step` meets its contract.
use mathlib.Core.Path.{sym}
use Rattle.std.proofs.lemmas.Result.{err_from_is_err_and}
use Rattle.plan_reading.specs.laws.reading.Steps.{step_refused}
use Rattle.loading.specs.Answer.{mode_of}
use Rattle.loading.specs.Loading.{draft_of}
use Rattle.loading.proofs.field.step.Goals as goal

pub returns-in_err-field-clause-steps : goal.returns-in_err-field-clause-steps
returns-in_err-field-clause-steps c =
    let p = err_from_is_err_and c.from_residual.result c.from_residual.ensures.1 in
    let a = c.args in
    rw (p.1, p.2) (sym (step_refused _ (mode_of a.strict) _ _ _ (draft_of a.tables.now a.tally.now) _ _ (sym c.in_err-field.ensures)))
