-- `route_absent` meets its contract.
use mathlib.Core.Path.{sym, ap, ◌∙◌}
use mathlib.Core.Bool.{not}
use native.Mathlib.Omega.{arith}
use Rattle.cqf.specs.Plan.{port_in}
use Rattle.plan.specs.laws.Route.{every_step, every-past}
use Rattle.loading.proofs.first.route_absent.Goals as goal

pub returns-then-not-is_in : goal.returns-then-not-is_in
returns-then-not-is_in c =
    let a = c.args in
    let e = c.loop-i.invariant ∙ every_step a.route.now (port_in a.rates.now) c.loop-i.i (omega arith) in
    rw e (rw (← c.route_port.ensures, ← c.is_in.ensures, c.if-not-is_in.true))

pub loop-i-preserved : goal.loop-i-preserved
loop-i-preserved c =
    let a = c.args in
    c.loop-i.invariant ∙ every_step a.route.now (port_in a.rates.now) c.loop-i.i (omega arith)
    ∙ rw (← c.route_port.ensures, ← c.is_in.ensures, c.if-not-is_in.false)

pub returns : goal.returns
returns c = sym (ap not (c.loop-i.invariant ∙ every-past c.args.route.now (port_in c.args.rates.now) c.loop-i.i (omega arith)))
