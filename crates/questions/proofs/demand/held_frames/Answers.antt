-- `questions::demand::held_frames` meets its contract: the product is within the most frames that a flow brings.
use mathlib.Core.Path.{ap}
use Prim.Native.Nat.{ℕ, ◌*◌, ◌≤◌}
use native.Mathlib.Nat.{mul-le-mul}
use native.Mathlib.Omega.{arith}
use Rattle.cqf.specs.Overflow.{most_begun}
use Rattle.cqf.proofs.laws.Begun.{begun_most}
use Rattle.questions.proofs.demand.held_frames.Goals as goal

pub overflow_mul-result : goal.overflow_mul-result
overflow_mul-result c =
    let s = c.before in
    let few : c.periods_begun-begun.result ≤ most_begun =
    rw c.periods_begun-begun.ensures (begun_most s.args.widened s.args.jitter s.requires.4 s.requires.3 s.requires.0) in
    omega (arith, mul-le-mul s.requires.2 few)

pub returns : goal.returns
returns c = ap (λ (n : ℕ). c.args.count * n) c.periods_begun-begun.ensures
