-- `questions::search::answer` meets its contract: the duration sought is up to top, or there is none.
use mathlib.Core.Path.{◌∙◌}
use native.Mathlib.Nat.{le_refl}
use native.Mathlib.Omega.{arith}
use Rattle.cqf.proofs.laws.Ranges.{top_positive}
use Rattle.tables.specs.Lent.{plan_lent}
use Rattle.questions.specs.Search.{wanted, none_number}
use Rattle.questions.specs.laws.Searched.{answers_within, answers_above}
use Rattle.questions.proofs.search.answer.Goals as goal

pub failing_at-ports-requires : goal.failing_at-ports-requires
failing_at-ports-requires c = (top_positive _ c.args.held.valid, le_refl _, c.seek-found.auto.out ∙ c.requires)

pub returns-then-limit-found : goal.returns-then-limit-found
returns-then-limit-found c =
    answers_above (none_number c.args.goal) (wanted c.args.goal) (plan_lent c.args.held.lent) c.seek-found.ensures (omega (arith, c.if-limit-found.true)) c.failing_at-ports.ensures

pub returns : goal.returns
returns c =
    answers_within (none_number c.args.goal) (wanted c.args.goal) (plan_lent c.args.held.lent) c.seek-found.ensures (omega (arith, c.if-limit-found.false))
