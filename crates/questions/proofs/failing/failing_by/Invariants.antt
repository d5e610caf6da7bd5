-- `questions::failing::failing_by` meets its contract. The loop's invariant: `set` has the failing ports passed.
use mathlib.Core.Path.{◌≡◌}
use Rattle.cqf.specs.Condition.{fails}
use Rattle.tables.specs.Lent.{plan_lent}
use Rattle.questions.specs.Failing.{set_to}
use Rattle.questions.proofs.failing.failing_by.Given as goal

abbrev pub invariant-loop-q : goal.invariant-loop-q
invariant-loop-q g l = l.set ≡ set_to l.q (fails (plan_lent l.held.lent) l.duration)
