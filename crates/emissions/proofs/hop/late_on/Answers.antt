-- `late_on` meets its contract: a place before the end is where the port stands.
use mathlib.Core.Path.{◌∙◌}
use native.Mathlib.Omega.{arith}
use Rattle.emissions.specs.laws.Hops.{late_holds, late_misses}
use Rattle.emissions.proofs.hop.late_on.Goals as goal

pub returns-then-at-route : goal.returns-then-at-route
returns-then-at-route c =
    let e = c.hop_on-at.ensures in
    e ∙ late_holds c.args.route.now c.args.q (omega (arith, e, c.if-at-route.true))

pub returns-else-at-route : goal.returns-else-at-route
returns-else-at-route c =
    let e = c.hop_on-at.ensures in
    late_misses c.args.route.now c.args.q (λ l. omega (arith, e, c.if-at-route.false, l))
