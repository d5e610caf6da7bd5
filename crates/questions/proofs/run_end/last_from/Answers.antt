use mathlib.Core.Path.{sym}
use native.Mathlib.Omega.{arith}
use Rattle.span_lists.specs.laws.Pieces.{between_ends}
use Rattle.questions.proofs.run_end.last_from.Goals as goal

pub returns : goal.returns
returns c = sym (between_ends c.loop-known.invariant.0 (omega (arith, c.loop-known-test.false)))
