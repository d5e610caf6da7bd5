-- `capi::asked::cp_fixed_point_columns` meets its contract: the planner's answer as numbers, which mean what it means.
use Rattle.capi.specs.laws.StepsMeaning.{steps_numbers_mean}
use Rattle.capi.proofs.asked.cp_fixed_point_columns.Goals as goal

pub returns-clause-means : goal.returns-clause-means
returns-clause-means c = steps_numbers_mean c.fixed_point_columns.result c.from.result c.from.ensures _ _ _ (rw (c.lent_at-lent.ensures _, c.clock_at-clock.ensures) at c.fixed_point_columns.ensures.means)
