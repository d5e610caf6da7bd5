-- `tables::flows::any_present` meets its contract. The loop's invariant: no slot passed holds a flow.
use mathlib.Core.Path.{◌≡◌}
use mathlib.Core.Bool.{false}
use Rattle.cqf.specs.Bounded.{any_to}
use Rattle.cqf.specs.Plan.{present}
use Rattle.tables.specs.Lent.{plan_lent}
use Rattle.tables.proofs.flows.any_present.Given as goal

abbrev pub invariant-loop-period : goal.invariant-loop-period
invariant-loop-period l = any_to l.period-index (present (plan_lent l.lent)) ≡ false
