-- `questions::lean_seek::lean_least` meets its contract. Round the outer loop t was reached by steps of single ports; in the loop over
-- the ports so many of them in turn pass at t.
use Prim.Native.Nat.{suc, ◌-◌, ◌≤◌, ◌<◌}
use Rattle.cqf.specs.Limits.{port_slots}
use Rattle.tables.specs.Lent.{plan_lent}
use Rattle.questions.specs.laws.LeanSearch.{Reached, InTurn}
use Rattle.questions.proofs.lean_seek.lean_least.Given as goal

abbrev pub invariant-ports : goal.invariant-ports
invariant-ports l = InTurn (plan_lent l.held.lent) l.t l.q l._passed × (l.reached ≤ l.t)

abbrev pub invariant-loop-reached : goal.invariant-loop-reached
invariant-loop-reached l = Reached (plan_lent l.held.lent) l.t × (l.q < port_slots)

abbrev pub decreases-loop-reached : goal.decreases-loop-reached
decreases-loop-reached l = suc l.held.lent.top - l.t
