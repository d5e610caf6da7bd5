-- `be32` meets its contract: the library's number of four bytes is this one.
use Prim.Native.Nat.{◌+◌}
use mathlib.Core.Path.{◌≡◌, ap}
use native.Mathlib.Omega.{arith}
use Rattle.plan.specs.Bytes.{byte_at, number2, number4}
use Rattle.plan.proofs.number.be32.Goals as goal

pub returns : goal.returns
unfolding number4 number2
returns c =
    let s = c.args.s.now in
    let i = c.args.i in
    let last : byte_at s (i + 2 + 1) ≡ byte_at s (i + 3) = ap (byte_at s) (omega arith) in
    omega (arith, last)
