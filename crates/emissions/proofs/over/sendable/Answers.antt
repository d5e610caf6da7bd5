-- `sendable` meets its contract: the product fits.
use Prim.Native.Nat.{◌*◌, ◌^◌, ◌≤◌}
use native.Mathlib.Nat.{mul-le-mul}
use native.Mathlib.Omega.{arith}
use Rattle.cqf.specs.Limits.{max_top}
use Rattle.emissions.proofs.over.sendable.Goals as goal

pub overflow_mul-bits : goal.overflow_mul-bits
overflow_mul-bits c =
    let rate : c.from.result ≤ 2 ^ 32 = omega (arith, c.from.ensures) in
    let most : c.from.result * c.args.window ≤ 2 ^ 32 * max_top = mul-le-mul rate c.requires in
    omega arith
