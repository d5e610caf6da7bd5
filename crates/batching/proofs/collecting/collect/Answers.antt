-- `collect` meets its contract.
use mathlib.Core.Path.{sym, ◌∙◌}
use Rattle.batching.specs.laws.Calls.{held_at, slot_at_of, collect_15, collect_28, collect_final}
use Rattle.batching.proofs.collecting.collect.Goals as goal

pub returns-then-slot-ge-SLOTS : goal.returns-then-slot-ge-SLOTS
returns-then-slot-ge-SLOTS c = collect_15 c.args.batch c.args.slot c.if-slot-ge-SLOTS.true

pub returns-then-not-is_answered : goal.returns-then-not-is_answered
returns-then-not-is_answered c =
    let b = c.args.batch in
    let s = c.args.slot in
    collect_28 b s (held_at b s) (slot_at_of b s) c.if-slot-ge-SLOTS.false (sym c.is_answered.ensures ∙ c.if-not-is_answered.true)

pub returns : goal.returns
returns c =
    let b = c.args.batch in
    let s = c.args.slot in
    collect_final b s (held_at b s) (slot_at_of b s) c.if-slot-ge-SLOTS.false c.vacant.result c.final_answer.result
    (sym c.is_answered.ensures ∙ c.if-not-is_answered.false) c.vacant.ensures c.final_answer.ensures
