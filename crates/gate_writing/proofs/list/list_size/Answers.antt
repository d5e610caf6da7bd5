-- `list_size` meets its contract: twice the size of a cycle.
use native.Mathlib.Omega.{arith}
use Rattle.gate_writing.specs.laws.List.{cycle_most}
use Rattle.gate_writing.proofs.list.list_size.Goals as goal

pub overflow_mul-result : goal.overflow_mul-result
overflow_mul-result c =
    omega (arith, c.cycle_size.ensures, cycle_most c.from.result c.window.result)

pub returns : goal.returns
returns c = rw (c.cycle_size.ensures, c.from.ensures, c.window.ensures)
