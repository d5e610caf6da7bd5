-- `first_unsent` meets its contract. The loop's invariant: no frame is left unsent in the cycles passed.
use Rattle.tables.specs.Lent.{plan_lent}
use Rattle.emissions.specs.laws.Over.{NoneBefore}
use Rattle.emissions.proofs.first.first_unsent.Given as goal

abbrev pub invariant-loop-c : goal.invariant-loop-c
invariant-loop-c l = NoneBefore (plan_lent l.held.lent) l.duration l.q l.c
