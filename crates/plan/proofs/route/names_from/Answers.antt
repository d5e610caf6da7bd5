-- `names_from` meets its contract.
use mathlib.Core.Path.{sym, ◌∙◌}
use native.Mathlib.Omega.{arith}
use borrow.Author.Tests.{eq-eqb, ne_eqb}
use Rattle.plan.specs.laws.Route.{names_step, names_past}
use Rattle.plan.proofs.route.names_from.Goals as goal

pub returns-then-port-route_port : goal.returns-then-port-route_port
returns-then-port-route_port c =
    sym (c.loop-k.invariant ∙ names_step c.args.route.now c.args.port c.loop-k.k (omega arith)
    ∙ rw (← c.route_port.ensures, eq-eqb _ _ c.if-port-route_port.true))

pub loop-k-preserved : goal.loop-k-preserved
loop-k-preserved c =
    c.loop-k.invariant ∙ names_step c.args.route.now c.args.port c.loop-k.k (omega arith)
    ∙ rw (← c.route_port.ensures, ne_eqb _ _ c.if-port-route_port.false)

pub returns : goal.returns
returns c = sym (c.loop-k.invariant ∙ names_past c.args.route.now c.args.port c.loop-k.k (omega arith))
