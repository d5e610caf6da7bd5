-- `emissions::over::workload` meets its contract.
use mathlib.Core.Path.{ap}
use Prim.Native.Nat.{ℕ, ◌+◌, ◌*◌}
use native.Mathlib.Omega.{arith}
use Rattle.questions.specs.laws.PortNeed.{blocking_most}
use Rattle.emissions.proofs.over.workload.Goals as goal

pub overflow_add-result : goal.overflow_add-result
overflow_add-result c =
    let a = c.args in
    omega (arith, blocking_most a.blocking a.extra (omega arith) (omega arith), c.blocking_bits.ensures, c.requires)

pub overflow_mul-result : goal.overflow_mul-result
overflow_mul-result c =
    let a = c.args in
    omega (arith, blocking_most a.blocking a.extra (omega arith) (omega arith), c.blocking_bits.ensures, c.requires)

pub returns : goal.returns
returns c = ap (λ (n : ℕ). 1000 * (c.args.bits + n)) c.blocking_bits.ensures

pub blocking_bits-requires : goal.blocking_bits-requires
blocking_bits-requires = (λ c. tt)
