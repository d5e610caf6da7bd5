-- `questions::demand::flow_frames` meets its contract: there are no more periods than ns.
use Prim.Native.Nat.{pred, ◌+◌, ◌^◌, ◌≤◌}
use native.Mathlib.Nat.{mul-le-mul, div-le_self}
use native.Mathlib.Omega.{arith}
use Rattle.cqf.specs.Ceil.{ceil_div}
use Rattle.questions.proofs.demand.flow_frames.Goals as goal

pub overflow_mul-result : goal.overflow_mul-result
unfolding ceil_div
overflow_mul-result c =
    let a = c.args in
    let few : c.wide_begun-begun.result ≤ 2 ^ 34 =
    omega (arith, c.wide_begun-begun.ensures, div-le_self (a.widened + a.jitter + pred a.period) a.period) in
    let count : c.from.result ≤ 2 ^ 16 = omega (arith, c.from.ensures) in
    omega (arith, mul-le-mul count few)
