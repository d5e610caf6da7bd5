-- `questions::iteration::iterate` meets its contract. Round the outer loop so many of the steps were made, and t is reached; in the loop
-- over the ports those below q do not fail at t.
use mathlib.Core.Path.{◌≡◌}
use mathlib.Core.Bool.{true, false}
use Prim.Native.Nat.{ℕ, ◌-◌, ◌<◌}
use lib.ListN.{length}
use Rattle.cqf.specs.Limits.{port_slots}
use Rattle.tables.specs.Lent.{plan_lent}
use Rattle.questions.specs.Failing.{fails_in}
use Rattle.questions.specs.laws.Iteration.{Stepped}
use Rattle.questions.proofs.iteration.iterate.Given as goal

abbrev pub invariant-ports : goal.invariant-ports
invariant-ports l = ((k : ℕ) → k < l.q → fails_in l.held.lent.rates.now l.held.lent.blockings.now l.held.lent.extras.now l.available l.out k ≡ false) × (l.passes ≡ true)

abbrev pub invariant-loop-used : goal.invariant-loop-used
invariant-loop-used l = (length l.out ≡ port_slots) × Stepped (plan_lent l.held.lent) l.start l.steps l.used l.t

abbrev pub decreases-loop-used : goal.decreases-loop-used
decreases-loop-used l = l.steps - l.used
