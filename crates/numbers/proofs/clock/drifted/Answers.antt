-- `numbers::clock::drifted` meets its contract: the product of two 32-bit numbers leaves room to round up.
use Prim.Native.Nat.{◌*◌, ◌-◌, ◌^◌, ◌≤◌}
use native.Mathlib.Nat.{mul-le-mul}
use native.Mathlib.Omega.{arith}
use mathlib.Core.Path.{refl}
use Rattle.cqf.specs.Ceil.{ceil_div}
use Rattle.numbers.proofs.clock.drifted.Goals as goal

product_most : (c : goal.Start) → c.args.duration * c.args.drift ≤ (2 ^ 32 - 1) * (2 ^ 32 - 1)
product_most c =
    let duration : c.args.duration ≤ 2 ^ 32 - 1 = omega arith in
    let drift : c.args.drift ≤ 2 ^ 32 - 1 = omega arith in
    mul-le-mul duration drift

pub overflow_mul-result : goal.overflow_mul-result
overflow_mul-result c = omega (arith, product_most c)

pub overflow_add-result : goal.overflow_add-result
overflow_add-result c = omega (arith, product_most c)

pub returns-clause-adds : goal.returns-clause-adds
unfolding ceil_div
returns-clause-adds c = refl
