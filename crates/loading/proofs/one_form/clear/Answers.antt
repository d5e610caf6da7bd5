-- `clear` meets its contract: every number is 0.
use mathlib.Core.Path.{refl}
use Rattle.cqf.specs.Plan.{no_plan}
use Rattle.loading.proofs.one_form.clear.Goals as goal

pub returns-clause-plan : goal.returns-clause-plan
unfolding no_plan
returns-clause-plan c = refl
