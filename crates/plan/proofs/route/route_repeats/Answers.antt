-- `route_repeats` meets its contract.
use mathlib.Core.Path.{sym, ap, ◌∙◌}
use mathlib.Core.Bool.{not}
use native.Mathlib.Omega.{arith}
use Rattle.plan.specs.laws.Route.{distinct_step, distinct-past}
use Rattle.plan.proofs.route.route_repeats.Goals as goal

pub returns-then-names_from : goal.returns-then-names_from
returns-then-names_from c =
    let e = c.loop-i.invariant ∙ distinct_step c.args.route.now c.loop-i.i (omega arith) in
    rw e (rw (← c.route_port.ensures, ← c.names_from.ensures, c.if-names_from.true))

pub loop-i-preserved : goal.loop-i-preserved
loop-i-preserved c =
    c.loop-i.invariant ∙ distinct_step c.args.route.now c.loop-i.i (omega arith)
    ∙ rw (← c.route_port.ensures, ← c.names_from.ensures, c.if-names_from.false)

pub returns : goal.returns
returns c = sym (ap not (c.loop-i.invariant ∙ distinct-past c.args.route.now c.loop-i.i (omega arith)))
