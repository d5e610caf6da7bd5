-- `interval` meets its contract: it is read in two halves.
use mathlib.Core.Path.{ap₂, ◌∙◌}
use Prim.Native.Nat.{ℕ, ◌+◌, ◌*◌}
use Rattle.gates.specs.laws.Entry.{halves}
use Rattle.gates.proofs.entry.interval.Goals as goal

pub returns : goal.returns
returns c =
    let bytes = c.args.bytes.now in
    ap₂ (λ (a b : ℕ). a * 65536 + b) c.first_number-high.ensures c.first_number-low.ensures ∙ halves bytes
