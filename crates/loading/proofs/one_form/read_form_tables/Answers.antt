-- `read_form_tables` meets its contract: the tables are cleared before the reading, and again where it refuses.
use mathlib.Core.Path.{sym, ap, ◌∙◌}
use Rattle.loading.specs.laws.Lent.{refused_form, accepted_form}
use Rattle.loading.specs.Answer.{load_of}
use Rattle.loading.specs.Loading.{answer_of}
use Rattle.loading.proofs.one_form.read_form_tables.Goals as goal

pub returns-in-Ok-clause-read : goal.returns-in-Ok-clause-read
returns-in-Ok-clause-read c =
    let e = sym c.read_tables-answer.ensures ∙ ap (answer_of _) c.in-Ok.is in
    accepted_form _ _ _ _ _ e (ap load_of c.in-Ok.is)

pub returns-in-Err-clause-read : goal.returns-in-Err-clause-read
returns-in-Err-clause-read c =
    let e = sym c.read_tables-answer.ensures ∙ ap (answer_of _) c.in-Err.is in
    refused_form _ _ _ _ _ e c.clear-in-Err.ensures.plan (ap load_of c.in-Err.is)
