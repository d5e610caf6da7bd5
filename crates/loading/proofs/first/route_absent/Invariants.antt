-- The ports from i on decide the test for the whole route.
use mathlib.Core.Path.{◌≡◌}
use lib.ListN.{drop}
use Rattle.cqf.specs.Bounded.{every}
use Rattle.cqf.specs.Plan.{port_in}
use Rattle.plan.specs.Field.{route_ports}
use Rattle.loading.proofs.first.route_absent.Given as goal

abbrev pub invariant-loop-i : goal.invariant-loop-i
invariant-loop-i l = every (port_in l.rates) (route_ports l.route) ≡ every (port_in l.rates) (drop l.i (route_ports l.route))
