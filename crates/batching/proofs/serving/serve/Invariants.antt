-- `serve` meets its contract. The invariant: round the loop no slot that was passed is pending.
use mathlib.Core.Path.{◌≡◌}
use mathlib.Core.Bool.{false}
use Prim.Native.Nat.{ℕ, ◌<◌}
use Rattle.batches.specs.Slot.{is_pending}
use Rattle.batches.specs.Batch.{slot_at, slot_after}
use Rattle.batching.specs.Slots.{batch_of}
use Rattle.batching.specs.declared.Batch.{Batch}
use Rattle.batching.proofs.serving.serve.Given as goal

abbrev pub None-before : Batch → ℕ → Type 0
None-before b i = (k : ℕ) → k < i → is_pending (slot_at (batch_of b) (slot_after (batch_of b) k)) ≡ false

abbrev pub invariant-loop-i : goal.invariant-loop-i
invariant-loop-i l = None-before l.batch l.i
