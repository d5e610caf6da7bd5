-- `read_plan` meets its contract: the form is the one that the bytes tell.
use Rattle.loading.specs.laws.Load.{told_loads}
use Rattle.loading.proofs.held.read_plan.Goals as goal

pub returns : goal.returns
returns c = told_loads _ _ _ _ _ _ c.form_by.ensures c.read_form.ensures
