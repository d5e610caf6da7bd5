-- `instant_in` meets its contract.
use native.Mathlib.Omega.{arith}
use Rattle.emissions.specs.laws.Burst.{at_frame, past-frames}
use Rattle.emissions.proofs.burst.instant_in.Goals as goal

pub returns-then-k-frames : goal.returns-then-k-frames
returns-then-k-frames c = at_frame c.args.k c.args.frames c.if-k-frames.true c.instant_of.ensures

pub returns-else-k-frames : goal.returns-else-k-frames
returns-else-k-frames c = past-frames c.args.k c.args.frames _ (omega (arith, c.if-k-frames.false))
