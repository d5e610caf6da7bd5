-- `questions::last_upto::outgrown` meets its contract. Round the loop some port needs more than the duration at over.
use mathlib.Core.Path.{◌≡◌}
use Prim.Native.Nat.{◌-◌}
use lib.ListN.{length}
use Rattle.cqf.specs.Limits.{port_slots}
use Rattle.tables.specs.Lent.{plan_lent}
use Rattle.questions.specs.laws.Nearest.{Halving}
use Rattle.questions.proofs.last_upto.outgrown.Given as goal

abbrev pub invariant-loop-under : goal.invariant-loop-under
invariant-loop-under l = Halving (plan_lent l.held.lent) l.duration l.under l.over × (length l.out ≡ port_slots)

abbrev pub decreases-loop-under : goal.decreases-loop-under
decreases-loop-under l = l.over - l.under
