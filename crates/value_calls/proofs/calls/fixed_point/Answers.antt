-- `value_calls::calls::fixed_point` meets its contract: the plan lent is the planner's.
use Rattle.value_calls.proofs.Lending.{lent_formed}
use Rattle.value_calls.proofs.calls.fixed_point.Goals as goal

pub returns-clause-means : goal.returns-clause-means
returns-clause-means c = rw (lent_formed c.lend.ensures) at c.fixed_point_columns.ensures.means
