-- `queue_bit` meets its contract, queue by queue.
use native.Mathlib.Omega.{arith}
use borrow.Author.Rules.{rules}
use mathlib.Core.Path.{◌≡◌, sym, ap}
use Rattle.gate_lists.specs.GateList.{bit}
use Rattle.gate_writing.proofs.states.queue_bit.Goals as goal

pub returns-in-0 : goal.returns-in-0
unfolding bit
returns-in-0 c = search rules

pub returns-in-1 : goal.returns-in-1
unfolding bit
returns-in-1 c = search rules

pub returns-in-2 : goal.returns-in-2
unfolding bit
returns-in-2 c = search rules

pub returns-in-3 : goal.returns-in-3
unfolding bit
returns-in-3 c = search rules

pub returns-in-4 : goal.returns-in-4
unfolding bit
returns-in-4 c = search rules

pub returns-in-5 : goal.returns-in-5
unfolding bit
returns-in-5 c = search rules

pub returns-in-6 : goal.returns-in-6
unfolding bit
returns-in-6 c = search rules

pub returns-in_default : goal.returns-in_default
unfolding bit
returns-in_default c =
    let last : c.args.queue ≡ 7 = omega arith in
    sym (ap bit last)
