-- The fields of the slots passed stand over the first bytes of the buffer.
use mathlib.Core.Path.{◌≡◌}
use lib.ListN.{length}
use Rattle.plan_reading.specs.FieldBytes.{row_bytes}
use Rattle.plan_reading.specs.Saved.{collect_fields}
use Rattle.tables.specs.Lent.{plan_lent}
use Rattle.writing.specs.Laid.{Puts}
use Rattle.saving.specs.Slots.{fields_in}
use Rattle.saving.proofs.slots.put_slots.Given as goal

abbrev pub invariant-loop-slot : goal.invariant-loop-slot
invariant-loop-slot l =
    (length l.out ≡ length l.initial.out)
    × Puts (row_bytes (collect_fields l.slot (fields_in l.kind (plan_lent l.held.lent)))) l.initial.out l.at l.out
