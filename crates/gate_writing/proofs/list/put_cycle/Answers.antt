-- `put_cycle` meets its contract: each interval behind what is there.
use mathlib.Core.Path.{◌≡◌, sym, ap, ◌∙◌}
use mathlib.Core.List.{List, ◌++◌}
use Prim.Native.Nat.{ℕ, ◌+◌, ◌≤◌}
use native.Mathlib.Omega.{arith}
use lib.ListN.{length}
use Rattle.writing.specs.Laid.{over}
use Rattle.writing.specs.laws.Laid.{laid-over, laid_short, lay_next}
use Rattle.gate_writing.specs.List.{lasting_of, cycle_of}
use Rattle.gate_writing.specs.laws.List.{size_most, lasting_length, front_length, cycle_parts, cycle_length}
use Rattle.gate_writing.proofs.list.put_cycle.Goals as goal

pub overflow_add-second : goal.overflow_add-second
overflow_add-second c = omega (arith, c.lasting_size-first.ensures, c.lasting_size.ensures, size_most c.args.guard, size_most c.args.window)

pub overflow_add-second-2 : goal.overflow_add-second-2
overflow_add-second-2 c = omega (arith, c.lasting_size-first.ensures, c.lasting_size.ensures, size_most c.args.guard, size_most c.args.window)

pub returns-then-out-second : goal.returns-then-out-second
returns-then-out-second c =
    let a = c.args in
    sym
    (laid_short (cycle_of a.closed a.opened a.guard a.window) a.out.now
    (omega (arith, cycle_length a.closed a.opened a.guard a.window, c.lasting_size-first.ensures, c.lasting_size.ensures, c.if-out-second.true)))

pub returns : goal.returns
returns c =
    let a = c.args in
    let e = a.out.now in
    let first = c.lasting_size-first in
    let next = c.lasting_size in
    let g = lasting_of a.closed a.guard in
    let w = lasting_of a.opened a.window in
    let whole = cycle_length a.closed a.opened a.guard a.window in
    let front = front_length a.closed a.opened a.guard a.window in
    let room : length (cycle_of a.closed a.opened a.guard a.window) ≤ length e = omega (arith, whole, first.ensures, next.ensures, c.if-out-second.false) in
    let guard-size : length g ≡ first.result = lasting_length a.closed a.guard ∙ sym first.ensures in
    let window-size : length w ≡ next.result = lasting_length a.opened a.window ∙ sym next.ensures in
    let there = c.put_lasting.ensures ∙ laid-over g e (omega (arith, room, whole, guard-size, first.ensures)) in
    let after_first = lay_next g w e first.result guard-size there (omega (arith, room, whole, window-size, first.ensures, next.ensures)) c.put_lasting-2.ensures in
    let both-size : length (g ++ w) ≡ first.result + next.result = omega (arith, front, first.ensures, next.ensures) in
    lay_next (g ++ w) g e (first.result + next.result) both-size after_first (omega (arith, room, whole, guard-size, first.ensures, next.ensures)) c.put_lasting-3.ensures
    ∙ ap (λ (l : List ℕ). over l e) (cycle_parts a.closed a.opened a.guard a.window)
    ∙ sym (laid-over (cycle_of a.closed a.opened a.guard a.window) e room)
