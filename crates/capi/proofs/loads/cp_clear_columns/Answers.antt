-- `capi::loads::cp_clear_columns` meets its contract: every number is 0.
use mathlib.Core.Path.{refl}
use Rattle.cqf.specs.Plan.{no_plan}
use Rattle.capi.specs.laws.Clear.{none_holds}
use Rattle.capi.proofs.loads.cp_clear_columns.Goals as goal

pub returns : goal.returns
unfolding no_plan
returns c = record { each = refl; plan = none_holds }
