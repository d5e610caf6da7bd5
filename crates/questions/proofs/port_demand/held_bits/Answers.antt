-- `questions::port_demand::held_bits` meets its contract: the product is within the most bits that a flow brings.
use mathlib.Core.Path.{◌≡◌, ap₂}
use Prim.Native.Nat.{ℕ, ◌*◌}
use native.Mathlib.Omega.{arith}
use Rattle.cqf.specs.Port.{bits_of}
use Rattle.cqf.specs.Condition.{frames_by}
use Rattle.cqf.proofs.laws.Demand.{flow_bits_most}
use Rattle.questions.proofs.port_demand.held_bits.Goals as goal

pub overflow_mul-result : goal.overflow_mul-result
overflow_mul-result c =
    let a = c.args in
    let r = c.requires in
    let bits : c.held_frames.result * c.wire_bits.result ≡ frames_by a.count a.widened a.jitter a.period * bits_of a.bytes a.extra =
    ap₂ (λ (n b : ℕ). n * b) c.held_frames.ensures c.wire_bits.ensures in
    omega (arith, bits, flow_bits_most a.widened r.6 r.0 r.2 r.3 r.4 r.5)
