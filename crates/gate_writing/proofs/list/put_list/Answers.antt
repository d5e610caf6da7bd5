-- `put_list` meets its contract: the cycle of the even queue, and behind it that of the odd one.
use mathlib.Core.Path.{◌≡◌, sym, ap, ◌∙◌}
use Prim.Native.Nat.{ℕ, ◌*◌, ◌≤◌}
use native.Mathlib.Omega.{arith}
use lib.ListN.{length}
use Rattle.cqf.specs.Port.{window_of}
use Rattle.gate_lists.specs.GateList.{both_closed, one_open}
use Rattle.gate_writing.specs.laws.Gates.{even_below, odd_below}
use Rattle.writing.specs.laws.Laid.{laid-over, laid_short, lay_next}
use Rattle.gate_writing.specs.List.{cycle_of, cycle_size, list_of}
use Rattle.gate_writing.specs.laws.States.{even_fits, odd_fits}
use Rattle.gate_writing.specs.laws.List.{cycle_most, cycle_length, cycle_is, list_length, laid_as}
use Rattle.gate_writing.proofs.list.put_list.Goals as goal

-- the list is two cycles of this size
twice
    : (guard T even odd n : ℕ) {lasts : ℕ}
    → n ≡ cycle_size guard lasts
    → lasts ≡ window_of guard T
    → length (list_of guard T even odd) ≡ 2 * n
twice guard T even odd n is w = list_length guard T even odd ∙ ap (λ (m : ℕ). 2 * m) (sym (is ∙ ap (cycle_size guard) w))

pub overflow_mul-cycle : goal.overflow_mul-cycle
overflow_mul-cycle c = omega (arith, c.cycle_size-cycle.ensures, cycle_most c.args.guard c.window-lasts.result)

pub returns-then-out-cycle : goal.returns-then-out-cycle
returns-then-out-cycle c =
    let a = c.args in
    let long = twice a.guard a.duration a.even a.odd c.cycle_size-cycle.result c.cycle_size-cycle.ensures c.window-lasts.ensures in
    sym (laid_short (list_of a.guard a.duration a.even a.odd) a.out.now (omega (arith, long, c.if-out-cycle.true)))

pub queue_bit-requires : goal.queue_bit-requires
queue_bit-requires c = let a = c.args in omega (arith, even_below a.even a.odd c.requires.queues)

pub overflow_add-closed : goal.overflow_add-closed
overflow_add-closed c = let a = c.args in omega (arith, even_fits a.even a.odd c.requires.queues, c.both_closed-closed.ensures, c.queue_bit.ensures)

pub queue_bit-requires-2 : goal.queue_bit-requires-2
queue_bit-requires-2 c = let a = c.args in omega (arith, odd_below a.even a.odd c.requires.queues)

pub overflow_add-closed-2 : goal.overflow_add-closed-2
overflow_add-closed-2 c = let a = c.args in omega (arith, odd_fits a.even a.odd c.requires.queues, c.both_closed-closed.ensures, c.queue_bit-2.ensures)

pub returns : goal.returns
unfolding list_of
returns c =
    let a = c.args in
    let e = a.out.now in
    let w = window_of a.guard a.duration in
    let n = c.cycle_size-cycle.result in
    let size = c.cycle_size-cycle.ensures ∙ ap (cycle_size a.guard) c.window-lasts.ensures in
    let list = list_of a.guard a.duration a.even a.odd in
    let long = twice a.guard a.duration a.even a.odd n c.cycle_size-cycle.ensures c.window-lasts.ensures in
    let even = cycle_of (both_closed a.even a.odd) (one_open a.even a.odd a.even) a.guard w in
    let odd = cycle_of (both_closed a.even a.odd) (one_open a.even a.odd a.odd) a.guard w in
    let even_is = cycle_is a.even a.odd a.even a.guard a.duration c.both_closed-closed.ensures c.queue_bit.ensures c.window-lasts.ensures in
    let odd_is = cycle_is a.even a.odd a.odd a.guard a.duration c.both_closed-closed.ensures c.queue_bit-2.ensures c.window-lasts.ensures in
    let even-size : length even ≡ n = cycle_length _ _ a.guard w ∙ sym size in
    let odd-size : length odd ≡ n = cycle_length _ _ a.guard w ∙ sym size in
    let room : length list ≤ length e = omega (arith, long, c.if-out-cycle.false) in
    let there = laid_as _ even e even_is c.put_cycle.ensures ∙ laid-over even e (omega (arith, long, room, even-size)) in
    lay_next even odd e n even-size there (omega (arith, long, room, odd-size)) (laid_as _ odd _ odd_is c.put_cycle-2.ensures)
    ∙ sym (laid-over list e room)
