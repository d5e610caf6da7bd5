-- `questions::port_search::lower_port` meets its contract. Round the loop the port fails at no duration above t.
use Rattle.cqf.proofs.laws.PortMarginSafe.{Lowered}
use Rattle.tables.specs.Lent.{plan_lent}
use Rattle.questions.proofs.port_search.lower_port.Given as goal

abbrev pub invariant-loop-t : goal.invariant-loop-t
invariant-loop-t l = Lowered (plan_lent l.held.lent) l.q l.floor l.t

abbrev pub decreases-loop-t : goal.decreases-loop-t
decreases-loop-t l = l.t
