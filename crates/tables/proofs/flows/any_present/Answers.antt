use mathlib.Core.Path.{sym}
use mathlib.Core.Bool.{and-false}
use Prim.Native.Nat.{◌<◌}
use native.Mathlib.Omega.{arith}
use lib.ListN.{get_or}
use lib.Dec.{ltb}
use borrow.Author.Rules.{rules}
use borrow.Author.Tests.{lt-ltb}
use Rattle.cqf.specs.Bounded.{any_to}
use Rattle.cqf.specs.Limits.{flow_slots}
use Rattle.cqf.proofs.laws.Bounded.{any_to_some}
use Rattle.cqf.proofs.laws.Bounds.{any_to-next}
use Rattle.tables.proofs.flows.any_present.Goals as goal

pub loop-period-init : goal.loop-period-init
unfolding any_to
loop-period-init c = search rules

pub returns-then-period-ne0 : goal.returns-then-period-ne0
returns-then-period-ne0 c =
    let f = c.loop-period.period-index in
    let periods = c.args.lent.periods.now in
    let slot : f < flow_slots = omega arith in
    let some : 0 < get_or periods f 0 = omega (arith, c.if-period-ne0.true) in
    sym (any_to_some flow_slots _ f slot (rw (lt-ltb f flow_slots slot, lt-ltb 0 (get_or periods f 0) some)))

pub loop-period-preserved : goal.loop-period-preserved
loop-period-preserved c =
    let f = c.loop-period.period-index in
    any_to-next f _ c.loop-period.invariant (rw c.if-period-ne0.false (and-false (ltb f flow_slots)))
