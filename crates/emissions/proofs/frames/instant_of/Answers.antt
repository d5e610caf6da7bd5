-- `emissions::frames::instant_of` meets its contract: the numbers stay small.
use native.Mathlib.Omega.{arith}
use Rattle.emissions.specs.laws.Burst.{nominal_most, start_most}
use Rattle.emissions.proofs.frames.instant_of.Goals as goal

pub overflow_mul-nominal : goal.overflow_mul-nominal
overflow_mul-nominal c = omega (arith, nominal_most c.args.k c.args.count c.args.period c.requires.4 c.requires.3)

pub overflow_mul-result : goal.overflow_mul-result
overflow_mul-result c = omega (arith, start_most c.args.cycle c.args.duration c.requires.0 c.requires.1)

pub overflow_add-result : goal.overflow_add-result
overflow_add-result c =
    let a = c.args in
    omega (arith, c.saturating_sub.ensures, start_most a.cycle a.duration c.requires.0 c.requires.1, nominal_most a.k a.count a.period c.requires.4 c.requires.3)
