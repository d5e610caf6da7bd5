-- `first_number` meets its contract: a byte past the value's end counts as 0.
use native.Mathlib.Omega.{arith}
use lib.ListN.{get_or-eq_default}
use Rattle.plan.specs.Bytes.{number2}
use Rattle.plan.proofs.number.first_number.Goals as goal

pub returns-in-empty : goal.returns-in-empty
unfolding number2
returns-in-empty c =
    let v = c.args.value.now in
    omega (arith, get_or-eq_default v 0 {n = 0} (omega arith), get_or-eq_default v 0 {n = 1} (omega arith))

pub returns-in-len1 : goal.returns-in-len1
unfolding number2
returns-in-len1 c = omega (arith, get_or-eq_default c.args.value.now 0 {n = 1} (omega arith))
