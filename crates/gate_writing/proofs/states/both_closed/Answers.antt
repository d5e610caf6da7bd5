-- `both_closed` meets its contract: the bits of two different queues are no more than the eight.
use native.Mathlib.Omega.{arith}
use Rattle.gate_lists.specs.GateList.{both_closed}
use Rattle.gate_writing.specs.laws.Gates.{even_below, odd_below}
use Rattle.gate_writing.specs.laws.States.{bits_fit}
use Rattle.gate_writing.proofs.states.both_closed.Goals as goal

pub queue_bit-requires : goal.queue_bit-requires
queue_bit-requires c = omega (arith, even_below c.args.even c.args.odd c.requires)

pub queue_bit-requires-2 : goal.queue_bit-requires-2
queue_bit-requires-2 c =
    let s = c.before in
    omega (arith, odd_below s.args.even s.args.odd s.requires)

pub overflow_sub-result-2 : goal.overflow_sub-result-2
overflow_sub-result-2 c =
    let s = c.before.before in
    omega (arith, bits_fit s.args.even s.args.odd s.requires, c.queue_bit.ensures, c.queue_bit-2.ensures)

pub returns : goal.returns
unfolding both_closed
returns c = cc (c.queue_bit.ensures, c.queue_bit-2.ensures)
