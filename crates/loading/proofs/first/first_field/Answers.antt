use mathlib.Core.Path.{refl, sym, ◌∙◌}
use native.Mathlib.Omega.{arith}
use lib.ListN.{length}
use Rattle.plan.specs.laws.Whole.{read_whole, read_tag, read_size, read_fits, read_cut}
use Rattle.plan_reading.specs.laws.reading.First.{first_cut, first_here, first_past}
use Rattle.loading.specs.Loading.{sought_in}
use Rattle.loading.proofs.first.first_field.Goals as goal

pub loop-head-init : goal.loop-head-init
loop-head-init c = (omega arith, refl)

pub is_sought-requires : goal.is_sought-requires
is_sought-requires c = (read_whole _ _ _ _ c.in-Some.ensures, read_tag _ _ _ _ c.in-Some.ensures)

pub returns-then-is_sought : goal.returns-then-is_sought
returns-then-is_sought c =
    let a = c.args in
    sym
    (c.loop-head.invariant.1
    ∙ first_here (sought_in a.sought) a.plan.now c.loop-head.at (read_whole _ _ _ _ c.in-Some.ensures)
    (sym c.is_sought.ensures ∙ c.if-is_sought.true))

pub overflow_add-at : goal.overflow_add-at
overflow_add-at c = omega (arith, read_fits _ _ _ _ c.in-Some.ensures)

pub overflow_add-at-in-Some : goal.overflow_add-at-in-Some
overflow_add-at-in-Some c = omega (arith, read_fits _ _ _ _ c.in-Some.ensures)

pub loop-head-smaller : goal.loop-head-smaller
loop-head-smaller c = omega (arith, read_fits _ _ _ _ c.in-Some.ensures)

pub loop-head-preserved : goal.loop-head-preserved
loop-head-preserved c =
    let a = c.args in (
      read_fits _ _ _ _ c.in-Some.ensures,
      c.loop-head.invariant.1
          ∙ rw (read_size _ _ _ _ c.in-Some.ensures)
          (first_past (sought_in a.sought) a.plan.now c.loop-head.at (read_whole _ _ _ _ c.in-Some.ensures)
          (sym c.is_sought.ensures ∙ c.if-is_sought.false)),
    )

pub returns : goal.returns
returns c =
    let a = c.args in
    sym
    (c.loop-head.invariant.1
    ∙ first_cut (sought_in a.sought) a.plan.now c.loop-head.at (length a.plan.now) (read_cut _ _ c.in_default.ensures))
