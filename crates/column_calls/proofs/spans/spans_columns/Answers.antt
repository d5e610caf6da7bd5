-- `column_calls::spans::spans_columns` meets its contract: what is answered and left means what is said of all spans.
use Rattle.sequences.specs.results.SpansTheorem.{spans_told}
use Rattle.column_calls.proofs.spans.spans_columns.Goals as goal

pub returns-clause-means : goal.returns-clause-means
returns-clause-means c = spans_told _ _ _ _ (rw c.formed.ensures at c.spans_tables.ensures)
