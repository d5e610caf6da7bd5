-- `questions::ascend::ascend` meets its contract. Round the outer loop t was reached by steps of single ports; in the loop over the
-- ports those below q do not fail at t.
use mathlib.Core.Path.{◌≡◌}
use mathlib.Core.Bool.{true, false}
use Prim.Native.Nat.{ℕ, suc, ◌-◌, ◌<◌}
use lib.ListN.{length}
use Rattle.cqf.specs.Limits.{port_slots}
use Rattle.tables.specs.Lent.{plan_lent}
use Rattle.questions.specs.Failing.{fails_in}
use Rattle.questions.specs.laws.LeanSearch.{Reached}
use Rattle.questions.proofs.ascend.ascend.Given as goal

abbrev pub invariant-ports : goal.invariant-ports
invariant-ports l = ((k : ℕ) → k < l.q → fails_in l.held.lent.rates.now l.held.lent.blockings.now l.held.lent.extras.now l.available l.out k ≡ false) × (l.passes ≡ true)

abbrev pub invariant-loop-q : goal.invariant-loop-q
invariant-loop-q l = (length l.out ≡ port_slots) × Reached (plan_lent l.held.lent) l.t

abbrev pub decreases-loop-q : goal.decreases-loop-q
decreases-loop-q l = suc l.held.lent.top - l.t
