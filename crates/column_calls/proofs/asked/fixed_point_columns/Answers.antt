-- `column_calls::asked::fixed_point_columns` meets its contract: the answer means what is said of the iteration.
use Rattle.sequences.specs.results.IterationsTheorem.{fixed_point_means}
use Rattle.column_calls.proofs.asked.fixed_point_columns.Goals as goal

pub returns-clause-means : goal.returns-clause-means
returns-clause-means c = rw (rw c.formed.ensures at c.fixed_point_tables.ensures) (fixed_point_means _ _ _)
