-- `older_kind` meets its contract, number by number.
use mathlib.Core.Path.{sym}
use native.Mathlib.Omega.{arith}
use Rattle.saving.specs.laws.Whole.{older_last}
use Rattle.saving.proofs.kind.older_kind.Goals as goal

pub returns-in_default : goal.returns-in_default
returns-in_default c = sym (older_last c.args.k (omega arith))
