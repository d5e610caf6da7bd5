-- What was written is within the buffer.
use Rattle.std.proofs.Common.{sym, arith, length-take-le}
use Rattle.tables.specs.Tables.{plan_of}
use Rattle.gate_writing.specs.laws.Gates.{gates_fit}
use Rattle.gates.proofs.say_gates.Goals as goal

pub slice_bounds-list-end : goal.slice_bounds-list-end
slice_bounds-list-end c =
    let a = c.args in
    let fit = gates_fit (plan_of a.planner) a.question.duration a.question.even a.question.odd _ _ (sym c.in-Ok.ensures.answers.0) in
    omega (arith, fit.room)

pub slice_bounds-say_list-end : goal.slice_bounds-say_list-end
slice_bounds-say_list-end c =
    let a = c.args in
    let fit = gates_fit (plan_of a.planner) a.question.duration a.question.even a.question.odd _ _ (sym c.in-Ok.ensures.answers.0) in
    sym (length-take-le _ _ (omega (arith, fit.room)))
