-- `emissions::frames::flow_frames` meets its contract: the product is within the most frames that a flow brings.
use mathlib.Core.Path.{ap₂, ◌∙◌}
use Prim.Native.Nat.{ℕ, ◌*◌, ◌≤◌}
use native.Mathlib.Nat.{mul-le-mul}
use native.Mathlib.Omega.{arith}
use Rattle.cqf.specs.Limits.{max_count}
use Rattle.cqf.specs.Overflow.{most_begun}
use Rattle.cqf.proofs.laws.Begun.{begun_most}
use Rattle.emissions.proofs.frames.flow_frames.Goals as goal

pub overflow_mul-result : goal.overflow_mul-result
overflow_mul-result c =
    let count : c.from.result ≤ max_count = omega (arith, c.from.ensures, c.requires.2) in
    let few : c.from-2.result ≤ most_begun =
    rw (c.from-2.ensures ∙ c.periods_begun-begun.ensures) (begun_most c.args.widened c.args.jitter c.requires.4 c.requires.3 c.requires.0) in
    omega (arith, mul-le-mul count few)

pub returns : goal.returns
returns c =
    let begun = c.from-2.ensures ∙ c.periods_begun-begun.ensures in
    let count : c.from.result ≤ max_count = omega (arith, c.from.ensures, c.requires.2) in
    let few : c.from-2.result ≤ most_begun =
    rw begun (begun_most c.args.widened c.args.jitter c.requires.4 c.requires.3 c.requires.0) in
    (ap₂ (λ (n b : ℕ). n * b) c.from.ensures begun, mul-le-mul count few)
