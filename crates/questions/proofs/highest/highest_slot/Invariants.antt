-- `questions::highest::highest_slot` meets its contract. The loop's invariant: no flow crosses a port from slot q on.
use mathlib.Core.Path.{◌≡◌}
use mathlib.Core.Bool.{false}
use Prim.Native.Nat.{ℕ, ◌≤◌, ◌<◌}
use Rattle.cqf.specs.Limits.{port_slots}
use Rattle.cqf.specs.Condition.{crossed}
use Rattle.tables.specs.Lent.{plan_lent}
use Rattle.questions.proofs.highest.highest_slot.Given as goal

abbrev pub invariant-loop-q : goal.invariant-loop-q
invariant-loop-q l = (k : ℕ) → l.q ≤ k → k < port_slots → crossed (plan_lent l.held.lent) k ≡ false
