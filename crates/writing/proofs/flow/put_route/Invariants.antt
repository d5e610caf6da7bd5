-- `put_route` meets its contract. The loop's invariant: the first i ports stand over the first bytes of the buffer.
use mathlib.Core.Path.{◌≡◌}
use lib.ListN.{length, take}
use Rattle.plan_reading.specs.FieldBytes.{bytes2s}
use Rattle.writing.specs.Laid.{over}
use Rattle.writing.proofs.flow.put_route.Given as goal

abbrev pub invariant-loop-i : goal.invariant-loop-i
invariant-loop-i l = (length l.out ≡ length l.initial.out) × (l.out ≡ over (bytes2s (take l.i l.route)) l.initial.out)
