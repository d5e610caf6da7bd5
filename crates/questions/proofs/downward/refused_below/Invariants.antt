-- `questions::downward::refused_below` meets its contract. Round the loop every duration from below + 1 to high is admissible.
use mathlib.Core.Path.{◌≡◌}
use lib.ListN.{length}
use Rattle.cqf.specs.Limits.{port_slots}
use Rattle.span_lists.specs.laws.Pieces.{Downward}
use Rattle.tables.specs.Lent.{plan_lent}
use Rattle.questions.proofs.downward.refused_below.Given as goal

abbrev pub invariant-loop-below : goal.invariant-loop-below
invariant-loop-below l = Downward (plan_lent l.held.lent) l.low l.high l.below × (length l.out ≡ port_slots)

abbrev pub decreases-loop-below : goal.decreases-loop-below
decreases-loop-below l = l.below
