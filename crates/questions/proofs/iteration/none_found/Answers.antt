-- `questions::iteration::none_found` meets its contract.
use native.Mathlib.Nat.{le_refl}
use Rattle.cqf.proofs.laws.Ranges.{top_positive}
use Rattle.questions.proofs.iteration.none_found.Goals as goal

pub failing_at-ports-requires : goal.failing_at-ports-requires
failing_at-ports-requires c = (top_positive _ c.args.held.valid, le_refl _, c.requires)
