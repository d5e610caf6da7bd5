use mathlib.Core.Path.{◌≡◌, sym}
use native.Mathlib.Omega.{arith}
use borrow.Author.Count.{below_more}
use borrow.Author.Tests.{ne_eqb}
use lib.ListN.{length}
use Rattle.emissions.specs.laws.Hops.{hop_here, hop_end}
use Rattle.emissions.proofs.hop.hop_on.Goals as goal

pub loop-i-init : goal.loop-i-init
loop-i-init c = λ j l. absurd (omega arith)

pub returns-then-x-port : goal.returns-then-x-port
returns-then-x-port c = sym (hop_here c.args.route.now c.args.q c.loop-i.i (omega arith) c.loop-i.invariant (omega (arith, c.if-x-port.true)))

pub loop-i-preserved : goal.loop-i-preserved
loop-i-preserved c = below_more _ _ c.loop-i.invariant (ne_eqb _ _ (λ e. c.if-x-port.false (omega arith)))

pub returns : goal.returns
returns c =
    let all : c.loop-i.i ≡ length c.args.route.now = omega arith in
    sym (hop_end c.args.route.now c.args.q (rw all at c.loop-i.invariant))
