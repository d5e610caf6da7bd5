-- `newer_kind` meets its contract, number by number.
use mathlib.Core.Path.{sym}
use native.Mathlib.Omega.{arith}
use Rattle.saving.specs.laws.Whole.{newer_last}
use Rattle.saving.proofs.kind.newer_kind.Goals as goal

pub returns-in_default : goal.returns-in_default
returns-in_default c = sym (newer_last c.args.k (omega arith))
