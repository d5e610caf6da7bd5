-- The ports from k on decide whether the route holds the port.
use mathlib.Core.Path.{◌≡◌}
use lib.ListN.{drop}
use Rattle.cqf.specs.Bounded.{elem}
use Rattle.plan.specs.Field.{route_ports}
use Rattle.plan.proofs.route.names_from.Given as goal

abbrev pub invariant-loop-k : goal.invariant-loop-k
invariant-loop-k l = elem l.port (drop l.from (route_ports l.route)) ≡ elem l.port (drop l.k (route_ports l.route))
