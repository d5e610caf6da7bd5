-- `read_form` meets its contract: the tables that were read are the planner where the plan is accepted.
use mathlib.Core.Path.{refl, sym, ap, ◌∙◌}
use Rattle.plan_reading.specs.laws.reading.Fits.{accepted_fits}
use Rattle.tables.specs.laws.Forms.{fits_plan}
use Rattle.loading.specs.laws.Empty.{empty_tables}
use Rattle.loading.specs.laws.Load.{refused_loads, accepted_loads}
use Rattle.loading.specs.Answer.{load_of}
use Rattle.loading.specs.Loading.{answer_of}
use Rattle.loading.proofs.held.read_form.Goals as goal

pub read_tables-answer-requires : goal.read_tables-answer-requires
read_tables-answer-requires c = empty_tables _ c.empty-held.ensures.plan c.empty-held.ensures.form

pub returns-in-Ok : goal.returns-in-Ok
returns-in-Ok c =
    let e = sym c.read_tables-answer.ensures ∙ ap (answer_of _) c.in-Ok.is in
    let number = c.form_number.ensures in
    let fits = accepted_fits _ _ _ _ _ _ e in
    accepted_loads _ _ _ _ _ _ _ e (fits_plan _ (rw number fits)) number (ap load_of c.in-Ok.is)

pub returns-in-Err : goal.returns-in-Err
returns-in-Err c =
    let e = sym c.read_tables-answer.ensures ∙ ap (answer_of _) c.in-Err.is in
    refused_loads _ _ _ _ _ _ e refl refl (ap load_of c.in-Err.is)
