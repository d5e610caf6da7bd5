-- `column_calls::asked::check_columns` meets its contract: the answer means what demand 3 says of it.
use Rattle.sequences.specs.results.Theorem.{check_means}
use Rattle.column_calls.proofs.asked.check_columns.Goals as goal

pub returns-clause-means : goal.returns-clause-means
returns-clause-means c = rw (rw c.formed.ensures at c.check_tables.ensures) (check_means _ _)
