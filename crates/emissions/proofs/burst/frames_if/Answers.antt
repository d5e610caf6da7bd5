-- `emissions::burst::frames_if` meets its contract.
use native.Mathlib.Omega.{arith}
use Rattle.emissions.specs.laws.Burst.{here, not_here}
use Rattle.emissions.proofs.burst.frames_if.Goals as goal

pub returns-then-at-length : goal.returns-then-at-length
returns-then-at-length c = let a = c.args in here a.at a.length a.brought c.if-at-length.true

pub returns-else-at-length : goal.returns-else-at-length
returns-else-at-length c = let a = c.args in not_here a.at a.length a.brought (omega (arith, c.if-at-length.false))
