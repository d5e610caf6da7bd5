-- `route_in_range` meets its contract.
use mathlib.Core.Path.{sym, ◌∙◌}
use native.Mathlib.Omega.{arith}
use Rattle.cqf.specs.Limits.{port_ok}
use Rattle.plan.specs.laws.Route.{every_step, every-past}
use Rattle.plan.proofs.route.route_in_range.Goals as goal

pub returns-then-not-port_ok : goal.returns-then-not-port_ok
returns-then-not-port_ok c =
    sym (c.loop-i.invariant ∙ every_step c.args.route.now port_ok c.loop-i.i (omega arith)
    ∙ rw (← c.route_port.ensures, ← c.port_ok.ensures, c.if-not-port_ok.true))

pub loop-i-preserved : goal.loop-i-preserved
loop-i-preserved c =
    c.loop-i.invariant ∙ every_step c.args.route.now port_ok c.loop-i.i (omega arith)
    ∙ rw (← c.route_port.ensures, ← c.port_ok.ensures, c.if-not-port_ok.false)

pub returns : goal.returns
returns c = sym (c.loop-i.invariant ∙ every-past c.args.route.now port_ok c.loop-i.i (omega arith))
