-- `questions::need::need` meets its contract.
use Prim.Native.Nat.{◌<◌}
use native.Mathlib.Omega.{arith}
use Rattle.questions.specs.laws.PortNeed.{need_rounded}
use Rattle.questions.proofs.need.need.Goals as goal

pub returns : goal.returns
returns c =
    let a = c.args in
    let some : 0 < a.bits = omega (arith, c.if-bits-eq0.false) in
    let served = c.requires.1 some in
    need_rounded a.guard a.rate a.blocking a.extra a.bits _ some served (omega (arith, served, c.workload-work.ensures))
