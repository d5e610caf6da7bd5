-- `questions::upward::first_from` meets its contract. Round the loop no duration from the start to below t is admissible.
use mathlib.Core.Path.{◌≡◌}
use Prim.Native.Nat.{suc, ◌-◌}
use lib.ListN.{length}
use Rattle.cqf.specs.Limits.{port_slots}
use Rattle.span_lists.specs.laws.Pieces.{Upward}
use Rattle.tables.specs.Lent.{plan_lent}
use Rattle.questions.proofs.upward.first_from.Given as goal

abbrev pub invariant-loop-t : goal.invariant-loop-t
invariant-loop-t l = Upward (plan_lent l.held.lent) l.start l.t × (length l.out ≡ port_slots)

abbrev pub decreases-loop-t : goal.decreases-loop-t
decreases-loop-t l = suc l.held.lent.top - l.t
