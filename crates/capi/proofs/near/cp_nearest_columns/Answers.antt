-- `capi::near::cp_nearest_columns` meets its contract: the planner's answer as numbers, which mean what it means.
use Rattle.questions.specs.Nearest.{nearest_of}
use Rattle.capi.specs.laws.NearestMeaning.{nearest_numbers_mean}
use Rattle.capi.proofs.near.cp_nearest_columns.Goals as goal

pub returns-clause-means : goal.returns-clause-means
returns-clause-means c = nearest_numbers_mean (nearest_of c.nearest_columns.result) c.from.result c.from.ensures _ _ (rw (c.lent_at-lent.ensures _, c.clock_at-clock.ensures) at c.nearest_columns.ensures.means)
