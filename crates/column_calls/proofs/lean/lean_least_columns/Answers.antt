-- `column_calls::lean::lean_least_columns` meets its contract: the search ends as it says at this goal.
use Rattle.tables.specs.Lent.{plan_lent}
use Rattle.questions.specs.laws.Leanly.{lean_least_ends}
use Rattle.column_calls.proofs.lean.lean_least_columns.Goals as goal

pub returns : goal.returns
returns c = rw c.formed.ensures at (lean_least_ends (plan_lent c.formed.result) c.args.scratch.now c.lean_tables.ensures)
