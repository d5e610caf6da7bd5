-- The ports from i on decide whether the route's ports are distinct.
use mathlib.Core.Path.{◌≡◌}
use lib.ListN.{drop}
use Rattle.cqf.specs.Bounded.{distinct}
use Rattle.plan.specs.Field.{route_ports}
use Rattle.plan.proofs.route.route_repeats.Given as goal

abbrev pub invariant-loop-i : goal.invariant-loop-i
invariant-loop-i l = distinct (route_ports l.route) ≡ distinct (drop l.i (route_ports l.route))
