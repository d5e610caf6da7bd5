-- `tables::ports::valid_ports` meets its contract. The loop's invariant: every slot passed is valid.
use mathlib.Core.Path.{◌≡◌}
use mathlib.Core.Bool.{true}
use Rattle.cqf.specs.Bounded.{all_to}
use Rattle.cqf.specs.Plan.{valid_port}
use Rattle.tables.specs.Lent.{plan_lent}
use Rattle.tables.proofs.ports.valid_ports.Given as goal

abbrev pub invariant-loop-q : goal.invariant-loop-q
invariant-loop-q l = all_to l.q (valid_port (plan_lent l.lent)) ≡ true
