-- `questions::descend::descend` meets its contract. Round the loop every duration from below + 1 to top is admissible.
use mathlib.Core.Path.{◌≡◌}
use Prim.Native.Nat.{suc}
use lib.ListN.{length}
use Rattle.cqf.specs.Limits.{port_slots}
use Rattle.cqf.proofs.laws.Search.{Descended}
use Rattle.tables.specs.Lent.{plan_lent}
use Rattle.questions.proofs.descend.descend.Given as goal

abbrev pub invariant-loop-below : goal.invariant-loop-below
invariant-loop-below l = (length l.out ≡ port_slots) × Descended (plan_lent l.held.lent) (suc l.below)

abbrev pub decreases-loop-below : goal.decreases-loop-below
decreases-loop-below l = l.below
