-- The sizes of the slots passed are summed.
use mathlib.Core.Path.{◌≡◌}
use Rattle.cqf.specs.Bounded.{sum_to}
use Rattle.tables.specs.Lent.{plan_lent}
use Rattle.saving.specs.Slots.{slot_size}
use Rattle.saving.proofs.size.slots_size.Given as goal

abbrev pub invariant-loop-slot : goal.invariant-loop-slot
invariant-loop-slot l = l.size ≡ sum_to l.slot (slot_size l.kind (plan_lent l.held.lent))
