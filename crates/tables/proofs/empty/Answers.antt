-- `empty` meets its contract: the tables are those of no plan.
use mathlib.Core.Path.{refl}
use Rattle.cqf.specs.Bounded.{all_to}
use Rattle.cqf.specs.Form.{form_fits}
use Rattle.cqf.specs.Plan.{no_plan}
use Rattle.tables.proofs.empty.Goals as goal

pub returns : goal.returns
unfolding no_plan form_fits all_to
returns c = record { plan = refl; form = refl }
