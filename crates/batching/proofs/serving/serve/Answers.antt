use mathlib.Core.Path.{◌≡◌, sym, ◌∙◌}
use mathlib.Core.Bool.{false}
use Prim.Native.Nat.{ℕ, ◌+◌, ◌%◌}
use native.Mathlib.Decide.{ℕ_discrete}
use native.Mathlib.Omega.{arith}
use Rattle.tables.specs.Tables.{plan_of}
use Rattle.batches.specs.Slot.{is_pending}
use Rattle.batches.specs.Batch.{slot_count, slot_at, slot_after}
use Rattle.batching.specs.Slots.{batch_of}
use Rattle.batching.specs.declared.Batch.{Batch}
use Rattle.batching.specs.laws.Slots.{pending_by}
use Rattle.batching.specs.laws.Calls.{held_at, slot_at_of, held_pends, serve_idle, serve_first}
use Rattle.batching.proofs.serving.serve.Invariants.{None-before}
use Rattle.batching.proofs.serving.serve.Goals as goal

-- the slot of a round
abbrev slot : Batch → ℕ → ℕ
slot b i = (b.next % slot_count + i) % slot_count

is_after : (b : Batch) (i : ℕ) → slot b i ≡ slot_after (batch_of b) i
is_after b i = omega arith

-- one more slot that is not pending
one_more
    : (b : Batch) (i : ℕ) → None-before b i → is_pending (slot_at (batch_of b) (slot_after (batch_of b) i)) ≡ false → None-before b (i + 1)
one_more b i before here k m = go (ℕ_discrete k i)
  where
    go : Dec (k ≡ i) → is_pending (slot_at (batch_of b) (slot_after (batch_of b) k)) ≡ false
    go (yes e) = rw e here
    go (no e) = before k (omega arith)

pub loop-i-init : goal.loop-i-init
loop-i-init c = λ k l. absurd (omega arith)

pub turned-requires : goal.turned-requires
turned-requires c =
    let x = held_at c.args.batch (slot c.args.batch c.loop-i.i) in
    (pending_by (plan_of x.planner) x.state x.duration x.port x.count x.steps (sym c.is_pending.ensures ∙ c.if-is_pending.true)).1

pub returns-then-is_pending : goal.returns-then-is_pending
returns-then-is_pending c =
    let b = c.args.batch in
    let i = c.loop-i.i in
    serve_first b i (slot b i) (held_at b (slot b i)) c.turned.result (is_after b i) (omega arith) c.loop-i.invariant
    (slot_at_of b (slot b i)) (sym c.is_pending.ensures ∙ c.if-is_pending.true) c.turned.ensures

pub loop-i-preserved : goal.loop-i-preserved
loop-i-preserved c =
    let b = c.args.batch in
    let i = c.loop-i.i in
    let here : is_pending (slot_at (batch_of b) (slot_after (batch_of b) i)) ≡ false
    = rw (is_after b i) at (held_pends b (slot b i) (held_at b (slot b i)) (slot_at_of b (slot b i)) ∙ sym c.is_pending.ensures ∙ c.if-is_pending.false) in
    one_more b i c.loop-i.invariant here

pub returns : goal.returns
returns c = serve_idle c.args.batch (λ k l. c.loop-i.invariant k (omega arith))
