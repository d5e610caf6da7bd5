-- `questions::run_end::last_from` meets its contract. Round the loop every duration from start to known is admissible, and over is
-- refused or one above top.
use mathlib.Core.Path.{◌≡◌}
use Prim.Native.Nat.{◌-◌}
use lib.ListN.{length}
use Rattle.cqf.specs.Limits.{port_slots}
use Rattle.span_lists.specs.laws.Pieces.{Between}
use Rattle.tables.specs.Lent.{plan_lent}
use Rattle.questions.proofs.run_end.last_from.Given as goal

abbrev pub invariant-loop-known : goal.invariant-loop-known
invariant-loop-known l = Between (plan_lent l.held.lent) l.start l.known l.over × (length l.out ≡ port_slots)

abbrev pub decreases-loop-known : goal.decreases-loop-known
decreases-loop-known l = l.over - l.known
