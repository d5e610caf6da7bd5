-- `field_at` meets its contract: test 2, and the field in the value of a whole one.
use mathlib.Core.Path.{sym, ◌∙◌}
use native.Mathlib.Omega.{arith}
use Rattle.plan.specs.laws.Whole.{read_fits, read_whole, read_tag, read_size, read_cut, part_whole}
use Rattle.plan.specs.laws.Tested.{field_cut, field_whole}
use Rattle.plan.proofs.read.field_at.Goals as goal

pub returns-in_default : goal.returns-in_default
returns-in_default c = sym (field_cut _ _ _ (read_cut _ _ c.in_default.ensures))

pub overflow_add-next : goal.overflow_add-next
overflow_add-next c = omega (arith, read_fits _ _ _ _ c.in-Some.ensures)

pub overflow_add-next-2 : goal.overflow_add-next-2
overflow_add-next-2 c = omega (arith, read_fits _ _ _ _ c.in-Some.ensures)

pub returns : goal.returns
returns c =
    let p = c.args.plan.now in
    let at = c.args.at in
    let x = c.in-Some.head in
    let h = c.in-Some.ensures in
    let w = read_whole p at x.tag x.size h in
    c.field_of.ensures
    ∙ rw (read_tag p at x.tag x.size h, read_size p at x.tag x.size h, c.field_value.ensures, part_whole p at w)
    (sym (field_whole _ p at w))
