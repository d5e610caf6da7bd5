-- `questions::port_demand::route_holds` meets its contract. The loop's invariant: the port is none of those passed, an even number.
use mathlib.Core.Path.{◌≡◌}
use mathlib.Core.Bool.{false}
use Prim.Native.Nat.{suc, ◌-◌, ◌%◌, ◌≤◌}
use Rattle.cqf.specs.Bounded.{elem, sublist}
use Rattle.questions.proofs.port_demand.route_holds.Given as goal

abbrev pub invariant-loop-i : goal.invariant-loop-i
invariant-loop-i l = (l.i ≤ l.even) × (l.i % 2 ≡ 0) × (elem (suc l.q) (sublist l.routes l.base l.i) ≡ false)

abbrev pub decreases-loop-i : goal.decreases-loop-i
decreases-loop-i l = l.even - l.i
