-- `unsent_of` meets its contract: the cycle, then the port in it.
use mathlib.Core.Path.{sym, ap, ◌∙◌}
use Prim.Native.Nat.{ℕ, ◌-◌, ◌/◌}
use native.Mathlib.Omega.{arith}
use Rattle.std.proofs.lemmas.Bool.{some_since}
use Rattle.cqf.specs.Limits.{port_slots}
use Rattle.cqf.specs.Plan.{rate_of, blocking_of, extra_of}
use Rattle.cqf.specs.Port.{ns_per_bit, capacity_of, blocking_bits_of}
use Rattle.tables.specs.Lent.{plan_lent}
use Rattle.emissions.specs.laws.Over.{window_most}
use Rattle.emissions.specs.laws.Answers.{slot_is, slot_low, unsent_told}
use Rattle.emissions.proofs.unsent.unsent_of.Goals as goal

pub first_unsent-cycle-requires : goal.first_unsent-cycle-requires
first_unsent-cycle-requires c = (c.requires.1, c.requires.2, c.latest_hop-latest.ensures)

pub overrun_in-requires : goal.overrun_in-requires
overrun_in-requires c = (c.requires.1, c.requires.2, c.latest_hop-latest.ensures)

pub unwrap-over-requires : goal.unwrap-over-requires
unwrap-over-requires c =
    let a = c.args in
    let p = plan_lent a.held.lent in
    let low = slot_low p a.duration a.q a.held.valid c.requires.0 c.requires.2 c.requires.3 in
    some_since c.overrun_in.result _ _ c.overrun_in.ensures
    (λ none. omega (arith, low, slot_is p a.duration a.q c.first_unsent-cycle.result port_slots c.first_unsent-cycle.ensures (sym none)))

pub bounds-lent-slot : goal.bounds-lent-slot
bounds-lent-slot c =
    let over = rw c.unwrap-over.ensures at c.overrun_in.ensures in
    omega (arith, over.0)

pub bounds-lent-slot-2 : goal.bounds-lent-slot-2
bounds-lent-slot-2 c =
    let over = rw c.unwrap-over.ensures at c.overrun_in.ensures in
    omega (arith, over.0)

pub bounds-lent-slot-3 : goal.bounds-lent-slot-3
bounds-lent-slot-3 c =
    let over = rw c.unwrap-over.ensures at c.overrun_in.ensures in
    omega (arith, over.0)

pub offset_bounds-lent-slot : goal.offset_bounds-lent-slot
offset_bounds-lent-slot c =
    let over = rw c.unwrap-over.ensures at c.overrun_in.ensures in
    omega (arith, over.0)

pub offset_bounds-lent-slot-2 : goal.offset_bounds-lent-slot-2
offset_bounds-lent-slot-2 c =
    let over = rw c.unwrap-over.ensures at c.overrun_in.ensures in
    omega (arith, over.0)

pub overflow_add-result-2 : goal.overflow_add-result-2
overflow_add-result-2 c =
    let over = rw c.unwrap-over.ensures at c.overrun_in.ensures in
    omega (arith, over.0)

pub overflow_cast-result-2 : goal.overflow_cast-result-2
overflow_cast-result-2 c =
    let over = rw c.unwrap-over.ensures at c.overrun_in.ensures in
    omega (arith, over.0)

pub sendable-most-requires : goal.sendable-most-requires
sendable-most-requires c =
    omega (arith, c.window-available.ensures, window_most (plan_lent c.args.held.lent) c.args.held.valid c.args.duration c.requires.1 0 0)

pub returns : goal.returns
returns c =
    let a = c.args in
    let p = plan_lent a.held.lent in
    let over = rw c.unwrap-over.ensures at c.overrun_in.ensures in
    let slot = c.unwrap-over.result.slot in
    let told = slot_is p a.duration a.q c.first_unsent-cycle.result slot c.first_unsent-cycle.ensures (sym over.1) in
    unsent_told p a.duration a.q c.first_unsent-cycle.result slot c.unwrap-over.result.bits c.sendable-most.result
    c.first_unsent-cycle.ensures
    told
    over.2
    (c.sendable-most.ensures ∙ ap (λ (w : ℕ). capacity_of (rate_of p slot) w / ns_per_bit - blocking_bits_of (blocking_of p slot) (extra_of p slot)) c.window-available.ensures)
