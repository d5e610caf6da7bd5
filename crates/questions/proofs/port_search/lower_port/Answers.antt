use mathlib.Core.Path.{◌≡◌, ◌∙◌}
use native.Mathlib.Omega.{arith}
use Rattle.std.proofs.Common.{add-one}
use Rattle.cqf.specs.Need.{need}
use Rattle.cqf.proofs.laws.PortMarginSafe.{lowered_start, lowered_floor, lowered_stops, lowered_next}
use Rattle.cqf.proofs.laws.Ranges.{extra_most}
use Rattle.tables.specs.Lent.{plan_lent}
use Rattle.questions.specs.laws.FlowSets.{crossing_countable, crossing_need, crossing_served}
use Rattle.questions.specs.laws.Widened.{widened_fits}
use Rattle.questions.proofs.port_search.lower_port.Goals as goal

pub loop-t-init : goal.loop-t-init
loop-t-init c = lowered_start _ _ _ c.requires.2

pub set_need-needed-requires-clause-set_countable : goal.set_need-needed-requires-clause-set_countable
set_need-needed-requires-clause-set_countable c = crossing_countable (plan_lent c.args.held.lent) c.args.q c.crossing_flows-set.ensures c.args.held.valid

pub set_need-needed-requires-clause-extra_le_max_extra : goal.set_need-needed-requires-clause-extra_le_max_extra
set_need-needed-requires-clause-extra_le_max_extra c =
    let p = plan_lent c.args.held.lent in
    let valid = c.args.held.valid in
    (c.requires.0, extra_most p valid c.args.q c.requires.0, widened_fits p valid _ c.loop-t.invariant.within)

pub set_need-needed-requires-clause-rate_nonzero : goal.set_need-needed-requires-clause-rate_nonzero
set_need-needed-requires-clause-rate_nonzero c = crossing_served (plan_lent c.args.held.lent) c.args.q c.crossing_flows-set.ensures c.loop-t.t c.args.held.valid

pub returns-then-t-needed : goal.returns-then-t-needed
returns-then-t-needed c =
    let p = plan_lent c.args.held.lent in
    let a = c.args in
    let needed : c.set_need-needed.result ≡ need p a.q c.loop-t.t = c.set_need-needed.ensures ∙ crossing_need p a.q c.crossing_flows-set.ensures c.loop-t.t in
    add-one _ ∙ lowered_stops p a.held.valid c.requires.1 c.loop-t.invariant (omega (arith, c.loop-t-test.true)) (omega (arith, needed, c.if-t-needed.true))

pub overflow_sub-t : goal.overflow_sub-t
overflow_sub-t c = omega (arith, c.max-t.ensures, c.requires.1)

pub loop-t-smaller : goal.loop-t-smaller
loop-t-smaller c = omega (arith, c.max-t.ensures, c.loop-t-test.true, c.if-t-needed.false, c.requires.1)

pub loop-t-preserved : goal.loop-t-preserved
loop-t-preserved c =
    let p = plan_lent c.args.held.lent in
    let a = c.args in
    let needed : c.set_need-needed.result ≡ need p a.q c.loop-t.t = c.set_need-needed.ensures ∙ crossing_need p a.q c.crossing_flows-set.ensures c.loop-t.t in
    lowered_next p a.held.valid c.requires.1 c.loop-t.invariant (omega (arith, c.loop-t-test.true)) (omega (arith, needed, c.if-t-needed.false))
    _ (omega (arith, c.max-t.ensures, needed, c.requires.1))

pub overflow_add-result : goal.overflow_add-result
overflow_add-result c = omega (arith, c.loop-t.invariant.within)

pub returns : goal.returns
returns c = add-one _ ∙ lowered_floor _ c.args.held.valid c.requires.1 c.loop-t.invariant (omega (arith, c.loop-t-test.false))
