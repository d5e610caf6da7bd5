-- `emissions::frames::periods_begun` meets its contract.
use mathlib.Core.Path.{ap}
use Prim.Native.Nat.{ℕ, ◌+◌, ◌/◌}
use native.Mathlib.Numerals.{sub-one}
use Rattle.cqf.specs.Ceil.{ceil_div}
use Rattle.emissions.proofs.frames.periods_begun.Goals as goal

pub returns : goal.returns
unfolding ceil_div
returns c = ap (λ (n : ℕ). (c.args.widened + c.args.jitter + n) / c.args.period) (sub-one c.args.period)
