-- `questions::port_demand::flow_bits` meets its contract: the most bits that a flow of a plan brings are below 2 ^ 64.
use mathlib.Core.Path.{◌≡◌, ap₂}
use Prim.Native.Nat.{ℕ, ◌*◌}
use native.Mathlib.Omega.{arith}
use Rattle.cqf.specs.Port.{bits_of}
use Rattle.cqf.specs.Condition.{frames_by}
use Rattle.cqf.proofs.laws.Demand.{flow_bits_most}
use Rattle.questions.proofs.port_demand.flow_bits.Goals as goal

pub returns-clause-in_range : goal.returns-clause-in_range
returns-clause-in_range c short long few bytes jitter extra over =
    let a = c.args in
    let bits : c.flow_frames-frames.result * c.wire_bits.result ≡ frames_by a.count a.widened a.jitter a.period * bits_of a.bytes a.extra =
    ap₂ (λ (n b : ℕ). n * b) c.flow_frames-frames.ensures c.wire_bits.ensures in
    omega (arith, bits, c.saturating_mul.ensures, flow_bits_most a.widened over short few bytes jitter extra)
