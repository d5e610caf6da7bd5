-- `step_of` meets its contract: the power of ten never falls below 1.
use Prim.Native.Nat.{◌-◌, ◌≤◌}
use Rattle.draw.proofs.axis.step_of.Given as goal

abbrev pub invariant-loop-power : goal.invariant-loop-power
invariant-loop-power l = (1 ≤ l.power) × (l.power ≤ 1000000000)

abbrev pub decreases-loop-power : goal.decreases-loop-power
decreases-loop-power l = 1000000000 - l.power
