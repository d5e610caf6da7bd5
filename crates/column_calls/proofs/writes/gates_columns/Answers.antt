-- `column_calls::writes::gates_columns` meets its contract: what was written plays two cycles.
use Rattle.sequences.specs.results.GatesTheorem.{gates_mean}
use Rattle.column_calls.proofs.writes.gates_columns.Goals as goal

pub returns-clause-means : goal.returns-clause-means
returns-clause-means c =
    let t = rw c.formed.ensures at c.gates_tables.ensures in
    rw (t.0, t.1) (gates_mean _ _ _ _ _)
