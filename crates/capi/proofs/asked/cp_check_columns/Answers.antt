-- `capi::asked::cp_check_columns` meets its contract: the planner's answer as numbers, which mean what it means.
use Rattle.capi.specs.laws.Meaning.{check_numbers_mean}
use Rattle.capi.proofs.asked.cp_check_columns.Goals as goal

pub returns-clause-means : goal.returns-clause-means
returns-clause-means c = check_numbers_mean c.check_columns.result c.from.result c.from.ensures _ _ (rw (c.lent_at-lent.ensures _, c.clock_at-clock.ensures) at c.check_columns.ensures.means)
