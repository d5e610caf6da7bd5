-- `Slot::turned` meets its contract: the answer of the question is that of the plan held.
use mathlib.Core.Path.{sym, ◌∙◌}
use mathlib.Core.List.{[], ◌∷◌}
use Prim.Native.Nat.{◌+◌, ◌<◌}
use native.Mathlib.Omega.{arith}
use borrow.Author.Tests.{lt-ltb}
use Rattle.tables.specs.Tables.{plan_of}
use Rattle.answers.specs.Answer.{refusal}
use Rattle.batches.specs.laws.Turned.{turned-found, Turned-none, turned_stopped, turned_refused}
use Rattle.batching.specs.Slots.{slot_by}
use Rattle.batching.specs.laws.Held.{asked}
use Rattle.batching.proofs.Slot.turned.Goals as goal

pub overflow_add-steps : goal.overflow_add-steps
overflow_add-steps c =
    let h = turned-found (plan_of c.args.self.now.planner) c.args.self.now.duration c.args.self.now.steps _ _ (asked _ _ _ _ _ _ c.lend.ensures c.held_top-top.ensures c.upto.ensures c.in-Ok.ensures) in
    omega (arith, h.below, h.few, c.requires)

pub overflow_add-steps-in-Err-Failing : goal.overflow_add-steps-in-Err-Failing
overflow_add-steps-in-Err-Failing c =
    let h = Turned-none (plan_of c.args.self.now.planner) c.args.self.now.duration c.args.self.now.steps _ _ _ (asked _ _ _ _ _ _ c.lend.ensures c.held_top-top.ensures c.upto.ensures (rw c.in-Err-Failing.field-0-is at c.in-Err-Failing.ensures)) in
    omega (arith, h.below, h.few, c.requires)

pub overflow_add-steps-in-Err-Unfinished : goal.overflow_add-steps-in-Err-Unfinished
overflow_add-steps-in-Err-Unfinished c =
    let h = (turned_stopped (plan_of c.args.self.now.planner) c.args.self.now.duration c.args.self.now.steps _ _ (asked _ _ _ _ _ _ c.lend.ensures c.held_top-top.ensures c.upto.ensures (rw c.in-Err-Unfinished.field-0-is at c.in-Err-Unfinished.ensures))).0 in
    omega (arith, h.below, h.few, c.requires)

pub returns-in-Ok : goal.returns-in-Ok
unfolding slot_by
returns-in-Ok c =
    c.with_numbers.ensures
    ∙ sym (turned-found (plan_of c.args.self.now.planner) c.args.self.now.duration c.args.self.now.steps _ _ (asked _ _ _ _ _ _ c.lend.ensures c.held_top-top.ensures c.upto.ensures c.in-Ok.ensures)).leaves

pub returns-in-Err-NoPlan : goal.returns-in-Err-NoPlan
unfolding slot_by
returns-in-Err-NoPlan c =
    c.with_numbers-in-Err-NoPlan.ensures
    ∙ sym
    (turned_refused (plan_of c.args.self.now.planner) c.args.self.now.duration c.args.self.now.steps (refusal 20 (0 ∷ [])) (omega arith) (omega arith)
    (asked _ _ _ _ _ _ c.lend.ensures c.held_top-top.ensures c.upto.ensures (rw c.in-Err-NoPlan.field-0-is at c.in-Err-NoPlan.ensures)))

pub returns-in-Err-BadStart : goal.returns-in-Err-BadStart
unfolding slot_by
returns-in-Err-BadStart c =
    c.with_numbers-in-Err-BadStart.ensures
    ∙ sym
    (turned_refused (plan_of c.args.self.now.planner) c.args.self.now.duration c.args.self.now.steps (refusal 10 (0 ∷ [])) (omega arith) (omega arith)
    (asked _ _ _ _ _ _ c.lend.ensures c.held_top-top.ensures c.upto.ensures (rw c.in-Err-BadStart.field-0-is at c.in-Err-BadStart.ensures)))

pub returns-in-Err-Failing : goal.returns-in-Err-Failing
unfolding slot_by
returns-in-Err-Failing c =
    c.with_numbers-in-Err-Failing.ensures
    ∙ sym (Turned-none (plan_of c.args.self.now.planner) c.args.self.now.duration c.args.self.now.steps _ _ _ (asked _ _ _ _ _ _ c.lend.ensures c.held_top-top.ensures c.upto.ensures (rw c.in-Err-Failing.field-0-is at c.in-Err-Failing.ensures))).leaves

pub returns-in-Err-Unfinished : goal.returns-in-Err-Unfinished
unfolding slot_by
returns-in-Err-Unfinished c =
    let h = turned_stopped (plan_of c.args.self.now.planner) c.args.self.now.duration c.args.self.now.steps _ _ (asked _ _ _ _ _ _ c.lend.ensures c.held_top-top.ensures c.upto.ensures (rw c.in-Err-Unfinished.field-0-is at c.in-Err-Unfinished.ensures)) in
    let fewer : c.args.self.now.steps + c.in-Err-Unfinished.used < c.in-Err-Unfinished.reached = omega (arith, h.1, c.requires) in
    c.with_numbers-in-Err-Unfinished.ensures ∙ rw (lt-ltb _ _ fewer) (sym h.0.leaves)
