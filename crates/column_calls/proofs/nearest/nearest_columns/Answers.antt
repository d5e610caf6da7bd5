-- `column_calls::nearest::nearest_columns` meets its contract: the answer means what is said of the nearest durations.
use Rattle.sequences.specs.results.NearestTheorem.{nearest_means}
use Rattle.column_calls.proofs.nearest.nearest_columns.Goals as goal

pub returns-clause-means : goal.returns-clause-means
returns-clause-means c = rw (rw c.formed.ensures at c.nearest_tables.ensures) (nearest_means _ _)
