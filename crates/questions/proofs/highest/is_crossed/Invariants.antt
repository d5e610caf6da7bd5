-- `questions::highest::is_crossed` meets its contract. The loop's invariant: no flow passed crosses the port.
use mathlib.Core.Path.{◌≡◌}
use mathlib.Core.Bool.{false}
use Rattle.cqf.specs.Bounded.{any_to}
use Rattle.cqf.specs.Plan.{crosses}
use Rattle.tables.specs.Lent.{plan_lent}
use Rattle.questions.proofs.highest.is_crossed.Given as goal

abbrev pub invariant-loop-f : goal.invariant-loop-f
invariant-loop-f l = any_to l.f (λ f. crosses (plan_lent l.held.lent) f l.q) ≡ false
