-- `value_calls::calls::gates` meets its contract: the plan lent is the planner's.
use Rattle.value_calls.proofs.Lending.{lent_formed}
use Rattle.value_calls.proofs.calls.gates.Goals as goal

pub returns-clause-means : goal.returns-clause-means
returns-clause-means c = rw (lent_formed c.lend.ensures) at c.gates_columns.ensures.means
