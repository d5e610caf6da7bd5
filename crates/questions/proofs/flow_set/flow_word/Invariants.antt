-- `questions::flow_set::flow_word` meets its contract. The loop's invariant: `set` has the flows passed that cross the port.
use mathlib.Core.Path.{◌≡◌}
use Prim.Native.Nat.{◌+◌}
use Rattle.cqf.specs.Plan.{crosses}
use Rattle.tables.specs.Lent.{plan_lent}
use Rattle.questions.specs.Failing.{set_to}
use Rattle.questions.proofs.flow_set.flow_word.Given as goal

abbrev pub invariant-loop-i : goal.invariant-loop-i
invariant-loop-i l = l.set ≡ set_to l.i (λ i. crosses (plan_lent l.held.lent) (l.base + i) l.q)
