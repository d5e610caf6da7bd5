-- `capi::writes::cp_gates_columns` meets its contract: the planner's answer as numbers, which mean what it means.
use Rattle.capi.specs.laws.GatesMeaning.{gates_numbers_mean}
use Rattle.capi.proofs.writes.cp_gates_columns.Goals as goal

pub returns-clause-means : goal.returns-clause-means
returns-clause-means c = gates_numbers_mean c.gates_columns.result c.from.result c.from.ensures _ _ _ _ _ _ (rw (c.lent_at-lent.ensures _, c.clock_at-clock.ensures) at c.gates_columns.ensures.means)
