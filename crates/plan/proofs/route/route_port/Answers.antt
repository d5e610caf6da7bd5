-- `route_port` meets its contract: port i is the number at byte 2 i.
use mathlib.Core.Path.{sym, ◌∙◌}
use native.Mathlib.Omega.{arith}
use Rattle.plan.specs.laws.Route.{route_at, route_past}
use Rattle.plan.proofs.route.route_port.Goals as goal

pub returns-then-route_len-i : goal.returns-then-route_len-i
returns-then-route_len-i c = sym (route_past _ _ (omega arith))

pub returns : goal.returns
returns c = c.be16.ensures ∙ sym (route_at _ _ (omega arith))
