-- `field_value` meets its contract: a whole field ends within the plan, so its value is a part of it.
use mathlib.Core.Path.{sym}
use native.Mathlib.Nat.{add-sub_cancel_left}
use native.Mathlib.Omega.{arith}
use Rattle.plan.specs.Bytes.{value_at}
use Rattle.plan.specs.laws.Whole.{read_fits, read_whole, read_size, read_cut, part_whole, part_cut}
use Rattle.plan.proofs.split.field_value.Goals as goal

pub overflow_add-start : goal.overflow_add-start
overflow_add-start c = omega (arith, read_fits _ _ _ _ c.in-Some.ensures)

pub overflow_add-end : goal.overflow_add-end
overflow_add-end c = omega (arith, read_fits _ _ _ _ c.in-Some.ensures)

pub slice_bounds-result-end : goal.slice_bounds-result-end
slice_bounds-result-end c = omega (arith, read_fits _ _ _ _ c.in-Some.ensures)

pub returns-in-Some : goal.returns-in-Some
unfolding value_at
returns-in-Some c =
    let e = c.in-Some.ensures in
    rw (add-sub_cancel_left, read_size _ _ _ _ e) (sym (part_whole _ _ (read_whole _ _ _ _ e)))

pub returns-in-None : goal.returns-in-None
returns-in-None c = sym (part_cut _ _ (read_cut _ _ c.in-None.ensures))
