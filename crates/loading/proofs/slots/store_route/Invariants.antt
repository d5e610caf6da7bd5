-- The first i ports of the route are stored, and nothing else has changed.
use mathlib.Core.Path.{◌≡◌}
use lib.ListN.{take}
use lib.Seq.{sets}
use Rattle.plan.specs.Field.{route_ports}
use Rattle.loading.proofs.slots.store_route.Given as goal

abbrev pub invariant-loop-i : goal.invariant-loop-i
invariant-loop-i l = l.routes ≡ sets l.initial.routes l.base (take l.i (route_ports l.route))
