-- `load_columns` meets its contract: the tables that were read are stored where the plan is accepted.
use mathlib.Core.Path.{refl, sym, ap, ◌∙◌}
use Rattle.std.proofs.lemmas.Result.{err_from_is_err_and}
use Rattle.plan_reading.specs.laws.reading.Fits.{accepted_fits}
use Rattle.loading.specs.laws.Empty.{empty_tables}
use Rattle.loading.specs.laws.Lent.{refused_lent, accepted_lent}
use Rattle.loading.specs.Answer.{load_of}
use Rattle.loading.proofs.lent.load_columns.Goals as goal

pub read_tables-answer-requires : goal.read_tables-answer-requires
read_tables-answer-requires c = empty_tables _ c.empty-fresh.ensures.plan c.empty-fresh.ensures.form

pub returns-in_err-loaded : goal.returns-in_err-loaded
returns-in_err-loaded c =
    let p = err_from_is_err_and c.from_residual.result c.from_residual.ensures.1 in
    refused_lent _ _ _ c.form_by-told.ensures _ _ _ (sym c.in_err-loaded.ensures) (ap load_of p.1 ∙ rw p.2)

pub returns : goal.returns
returns c =
    let e = sym c.in_ok-loaded.ensures in
    accepted_lent _ _ _ c.form_by-told.ensures _ _ _ _ e c.form_number.ensures (accepted_fits _ _ _ _ _ _ e) refl
