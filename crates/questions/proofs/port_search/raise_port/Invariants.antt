-- `questions::port_search::raise_port` meets its contract. Round the loop t was reached by steps of the port.
use Prim.Native.Nat.{suc, ◌-◌}
use Rattle.cqf.specs.PortSteps.{PortSteps}
use Rattle.tables.specs.Lent.{plan_lent}
use Rattle.questions.proofs.port_search.raise_port.Given as goal

abbrev pub invariant-loop-t : goal.invariant-loop-t
invariant-loop-t l = PortSteps (plan_lent l.held.lent) l.from l.t

abbrev pub decreases-loop-t : goal.decreases-loop-t
decreases-loop-t l = suc l.held.lent.top - l.t
