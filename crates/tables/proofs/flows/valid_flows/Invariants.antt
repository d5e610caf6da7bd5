-- `tables::flows::valid_flows` meets its contract. The loop's invariant: every slot passed is valid.
use mathlib.Core.Path.{◌≡◌}
use mathlib.Core.Bool.{true}
use Rattle.cqf.specs.Bounded.{all_to}
use Rattle.cqf.specs.Plan.{valid_flow}
use Rattle.tables.specs.Lent.{plan_lent}
use Rattle.tables.proofs.flows.valid_flows.Given as goal

abbrev pub invariant-loop-f : goal.invariant-loop-f
invariant-loop-f l = all_to l.f (valid_flow (plan_lent l.lent)) ≡ true
