-- `questions::demand::demands` meets its contract. The loop's invariant: `out` has each port's demand by the flows passed.
use Rattle.tables.specs.Lent.{plan_lent}
use Rattle.questions.specs.laws.Sums.{Sums}
use Rattle.questions.proofs.demand.demands.Given as goal

abbrev pub invariant-loop-f : goal.invariant-loop-f
invariant-loop-f l = Sums (plan_lent l.lent) l.duration l.f l.out
