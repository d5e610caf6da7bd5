-- `column_calls::writes::span_columns` meets its contract: the answer means what is said of one span.
use Rattle.sequences.specs.results.SpansTheorem.{span_means}
use Rattle.column_calls.proofs.writes.span_columns.Goals as goal

pub returns-clause-means : goal.returns-clause-means
returns-clause-means c = rw (rw c.formed.ensures at c.span_tables.ensures) (span_means _ _)
