-- `questions::last_upto::last_upto` meets its contract. Round the loop no duration above at is admissible.
use mathlib.Core.Path.{◌≡◌}
use lib.ListN.{length}
use Rattle.cqf.specs.Limits.{port_slots}
use Rattle.tables.specs.Lent.{plan_lent}
use Rattle.questions.specs.laws.Nearest.{Lowered}
use Rattle.questions.proofs.last_upto.last_upto.Given as goal

abbrev pub invariant-loop-at : goal.invariant-loop-at
invariant-loop-at l = Lowered (plan_lent l.held.lent) l.duration l.at × (length l.out ≡ port_slots)

abbrev pub decreases-loop-at : goal.decreases-loop-at
decreases-loop-at l = l.at
