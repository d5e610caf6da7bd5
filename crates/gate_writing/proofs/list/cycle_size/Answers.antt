-- `cycle_size` meets its contract: three fields are few bytes.
use native.Mathlib.Omega.{arith}
use Rattle.gate_writing.specs.laws.List.{size_most}
use Rattle.gate_writing.proofs.list.cycle_size.Goals as goal

pub overflow_add-result : goal.overflow_add-result
overflow_add-result c =
    let a = c.args in
    omega (arith, size_most a.guard, size_most a.window, c.lasting_size.ensures, c.lasting_size-2.ensures)

pub overflow_add-result-2 : goal.overflow_add-result-2
overflow_add-result-2 c =
    let a = c.args in
    omega (arith, size_most a.guard, size_most a.window, c.lasting_size.ensures, c.lasting_size-2.ensures, c.lasting_size-3.ensures)
