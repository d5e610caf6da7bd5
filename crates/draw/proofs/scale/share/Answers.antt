-- `share` meets its contract: some of the parts of a whole are no more than the whole.
use Prim.Native.Nat.{ℕ, ◌*◌, ◌/◌, ◌≤◌, ◌<◌}
use native.Mathlib.Nat.{mul-le-mul, mul-le-mul_right, div-le_of_le-mul}
use native.Mathlib.Omega.{arith}
use Rattle.draw.proofs.scale.share.Goals as goal

-- two numbers of 32 bits have a product of 64
product : (a b : ℕ) → a ≤ 4294967295 → b ≤ 4294967295 → a * b ≤ 18446744065119617025
product a b k l = omega (arith, mul-le-mul k l)

within : (part whole parts : ℕ) → part < parts → part * whole / parts ≤ whole
within part whole parts l = div-le_of_le-mul parts (mul-le-mul_right whole (omega arith))

pub overflow_mul-result : goal.overflow_mul-result
overflow_mul-result c =
    let a = c.args in
    record { fits = omega (arith, product a.part a.whole (omega arith) (omega arith)) }

pub overflow_cast-result-4 : goal.overflow_cast-result-4
overflow_cast-result-4 c =
    let a = c.args in
    record { fits = omega (arith, within a.part a.whole a.parts (omega arith)) }

pub returns : goal.returns
returns c =
    let a = c.args in
    within a.part a.whole a.parts (omega arith)
