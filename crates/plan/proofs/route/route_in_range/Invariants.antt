-- The ports from i on decide the test for the whole route.
use mathlib.Core.Path.{◌≡◌}
use lib.ListN.{drop}
use Rattle.cqf.specs.Bounded.{every}
use Rattle.cqf.specs.Limits.{port_ok}
use Rattle.plan.specs.Field.{route_ports}
use Rattle.plan.proofs.route.route_in_range.Given as goal

abbrev pub invariant-loop-i : goal.invariant-loop-i
invariant-loop-i l = every port_ok (route_ports l.route) ≡ every port_ok (drop l.i (route_ports l.route))
