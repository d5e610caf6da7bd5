-- `column_calls::searches::margin_safe_columns` meets its contract: the search ends as it says at this goal.
use Rattle.tables.specs.Lent.{plan_lent}
use Rattle.questions.specs.laws.Searched.{margin_safe_ends}
use Rattle.column_calls.proofs.searches.margin_safe_columns.Goals as goal

pub returns : goal.returns
returns c = rw c.formed.ensures at (margin_safe_ends (plan_lent c.formed.result) c.args.scratch.now c.search_tables.ensures)
