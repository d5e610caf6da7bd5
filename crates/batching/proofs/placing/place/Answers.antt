-- `place` meets its contract.
use mathlib.Core.Path.{sym, ◌∙◌}
use Rattle.batching.specs.laws.Calls.{held_at, slot_at_of, place_15, place_pending, place_answered, place_held, place_refused}
use Rattle.batching.proofs.placing.place.Goals as goal
use Rattle.batching.proofs.placing.place.Goals.{then-is_pending-via-then-is_pending, then-is_pending-via-else-is_pending+then-is_answered}

pub returns-then-slot-ge-SLOTS : goal.returns-then-slot-ge-SLOTS
returns-then-slot-ge-SLOTS c = place_15 c.args.batch c.args.slot c.if-slot-ge-SLOTS.true c.args.plan.now

pub returns-then-is_pending : goal.returns-then-is_pending
returns-then-is_pending c =
    let b = c.args.batch in
    let s = c.args.slot in
    elim c.then-is_pending.branch [
      | then-is_pending-via-then-is_pending w ↦ place_pending b s (held_at b s) (slot_at_of b s) c.if-slot-ge-SLOTS.false c.args.plan.now
          (sym c.is_pending.ensures ∙ w.if-is_pending.true)
      | then-is_pending-via-else-is_pending+then-is_answered w ↦ place_answered b s (held_at b s) (slot_at_of b s) c.if-slot-ge-SLOTS.false c.args.plan.now
          (sym w.is_answered.ensures ∙ w.if-is_answered.true)
    ]

pub returns-in-Ok : goal.returns-in-Ok
returns-in-Ok c =
    let b = c.args.batch in
    let s = c.args.slot in
    place_held b s (held_at b s) (slot_at_of b s) c.if-slot-ge-SLOTS.false c.args.plan.now
    (sym c.is_pending.ensures ∙ c.if-is_pending.false) (sym c.is_answered.ensures ∙ c.if-is_answered.false)
    _ c.load-outcome.result c.load-outcome.ensures _ c.placed.result c.in-Ok.is c.placed.ensures

pub returns-in-Err : goal.returns-in-Err
returns-in-Err c =
    let b = c.args.batch in
    let s = c.args.slot in
    place_refused b s (held_at b s) (slot_at_of b s) c.if-slot-ge-SLOTS.false c.args.plan.now
    (sym c.is_pending.ensures ∙ c.if-is_pending.false) (sym c.is_answered.ensures ∙ c.if-is_answered.false)
    _ c.load-outcome.result c.load-outcome.ensures _ c.in-Err.is
