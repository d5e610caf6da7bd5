-- `questions::port_demand::port_demand` meets its contract. The loop's invariant: `bits` is the demand by the flows passed.
use mathlib.Core.Path.{◌≡◌}
use Rattle.cqf.specs.Bounded.{sum_to}
use Rattle.cqf.proofs.laws.Demand.{share}
use Rattle.tables.specs.Lent.{plan_lent}
use Rattle.questions.proofs.port_demand.port_demand.Given as goal

abbrev pub invariant-loop-f : goal.invariant-loop-f
invariant-loop-f l = l.bits ≡ sum_to l.f (share (plan_lent l.lent) l.q l.duration)
