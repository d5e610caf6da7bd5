-- `put_slots` meets its contract: there is room for the field of each slot, and it stands behind those before it.
use Prim.Native.Nat.{ℕ, ◌+◌, ◌≤◌, ◌<◌}
use mathlib.Core.Path.{◌≡◌, refl, sym, ap, ◌∙◌}
use mathlib.Core.List.{List, ◌++◌}
use native.Mathlib.Omega.{arith}
use lib.ListN.{length, length-append}
use Rattle.cqf.specs.Plan.{Plan}
use Rattle.plan_reading.specs.FieldBytes.{row_bytes}
use Rattle.plan_reading.specs.Saved.{collect_fields}
use Rattle.tables.specs.Lent.{plan_lent}
use Rattle.saving.specs.declared.kind.Kind.{Kind}
use Rattle.writing.specs.Laid.{Puts}
use Rattle.saving.specs.Slots.{slots_of, fields_in, slot_bytes, kind_bytes}
use Rattle.writing.specs.laws.Laid.{over_length, puts_next}
use Rattle.saving.specs.laws.Sizes.{slot_length, collect-next, collect_room}
use Rattle.saving.proofs.slots.put_slots.Goals as goal

-- there is room for a slot's field
room
    : (k : Kind) (p : Plan) (i at : ℕ) (e now : List ℕ)
    → i < slots_of k
    → length (kind_bytes k p) ≤ length e
    → Puts (row_bytes (collect_fields i (fields_in k p))) e at now
    → at + length (slot_bytes k p i) ≤ length e
room k p i at e now below fits there = omega (arith, there.size, collect_room k p i (slots_of k) below)

pub loop-slot-init : goal.loop-slot-init
unfolding collect_fields row_bytes
loop-slot-init c = (refl, record { size = refl; bytes = refl })

pub slice_bounds-put_slot-count : goal.slice_bounds-put_slot-count
slice_bounds-put_slot-count c =
    let a = c.args in
    let p = plan_lent a.held.lent in
    let below : c.loop-slot.slot < slots_of a.kind = omega (arith, c.slots-slot-end.ensures) in
    omega (arith, room a.kind p c.loop-slot.slot c.loop-slot.at a.out.now c.loop-slot.out below c.requires c.loop-slot.invariant.1)

pub slice_bounds-put_slot-start : goal.slice_bounds-put_slot-start
slice_bounds-put_slot-start c =
    let a = c.args in
    let p = plan_lent a.held.lent in
    let below : c.loop-slot.slot < slots_of a.kind = omega (arith, c.slots-slot-end.ensures) in
    omega (arith, room a.kind p c.loop-slot.slot c.loop-slot.at a.out.now c.loop-slot.out below c.requires c.loop-slot.invariant.1)

pub put_slot-requires : goal.put_slot-requires
put_slot-requires c = omega (arith, c.slots-slot-end.ensures)

pub slot_size-at-requires : goal.slot_size-at-requires
slot_size-at-requires c = omega (arith, c.slots-slot-end.ensures)

pub overflow_add-at : goal.overflow_add-at
overflow_add-at c =
    let a = c.args in
    let p = plan_lent a.held.lent in
    let i = c.loop-slot.slot in
    let below : i < slots_of a.kind = omega (arith, c.slots-slot-end.ensures) in
    let size : c.slot_size-at.result ≡ length (slot_bytes a.kind p i) = c.slot_size-at.ensures ∙ sym (slot_length a.kind p i) in
    omega (arith, room a.kind p i c.loop-slot.at a.out.now c.loop-slot.out below c.requires c.loop-slot.invariant.1, size)

pub loop-slot-preserved : goal.loop-slot-preserved
loop-slot-preserved c =
    let a = c.args in
    let p = plan_lent a.held.lent in
    let i = c.loop-slot.slot in
    let e = a.out.now in
    let below : i < slots_of a.kind = omega (arith, c.slots-slot-end.ensures) in
    let size : c.slot_size-at.result ≡ length (slot_bytes a.kind p i) = c.slot_size-at.ensures ∙ sym (slot_length a.kind p i) in
    let done = row_bytes (collect_fields i (fields_in a.kind p)) in
    let bs = slot_bytes a.kind p i in
    let space = room a.kind p i c.loop-slot.at e c.loop-slot.out below c.requires c.loop-slot.invariant.1 in
    let next = puts_next done bs e c.loop-slot.at c.slot_size-at.result c.loop-slot.invariant.1 space size c.put_slot.ensures in
    let all = collect-next i (fields_in a.kind p) in
    (ap length next.bytes ∙ over_length (done ++ bs) e (omega (arith, length-append done bs, c.loop-slot.invariant.1.size, space)), rw all next)

pub returns : goal.returns
returns c =
    let all : c.loop-slot.slot ≡ slots_of c.args.kind = omega (arith, c.slots-slot-end.ensures) in
    rw all at c.loop-slot.invariant.1
