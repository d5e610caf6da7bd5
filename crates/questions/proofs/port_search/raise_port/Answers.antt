use mathlib.Core.Path.{◌≡◌, sym, subst, ◌∙◌}
use mathlib.Mathlib.Data.Bool.Basic.{eq-false_of_not-eq-true}
use native.Mathlib.Omega.{arith}
use Rattle.cqf.specs.Need.{need}
use Rattle.cqf.specs.PortSteps.{PortSteps, begin, next}
use Rattle.cqf.proofs.laws.PortSteps.{steps_from}
use Rattle.cqf.proofs.laws.Ranges.{extra_most}
use Rattle.cqf.proofs.laws.Search.{fails-need, need-fails}
use Rattle.tables.specs.Lent.{plan_lent}
use Rattle.questions.specs.laws.FlowSets.{crossing_countable, crossing_need, crossing_served}
use Rattle.questions.specs.laws.Widened.{widened_fits}
use Rattle.questions.proofs.port_search.raise_port.Goals as goal

pub loop-t-init : goal.loop-t-init
loop-t-init c = begin

pub set_need-needed-requires-clause-set_countable : goal.set_need-needed-requires-clause-set_countable
set_need-needed-requires-clause-set_countable c = crossing_countable (plan_lent c.args.held.lent) c.args.q c.crossing_flows-set.ensures c.args.held.valid

pub set_need-needed-requires-clause-extra_le_max_extra : goal.set_need-needed-requires-clause-extra_le_max_extra
set_need-needed-requires-clause-extra_le_max_extra c =
    let p = plan_lent c.args.held.lent in
    let valid = c.args.held.valid in
    (c.requires.0, extra_most p valid c.args.q c.requires.0, widened_fits p valid _ (omega (arith, c.loop-t-test.true)))

pub set_need-needed-requires-clause-rate_nonzero : goal.set_need-needed-requires-clause-rate_nonzero
set_need-needed-requires-clause-rate_nonzero c = crossing_served (plan_lent c.args.held.lent) c.args.q c.crossing_flows-set.ensures c.loop-t.t c.args.held.valid

pub returns-then-needed-t : goal.returns-then-needed-t
returns-then-needed-t c =
    let p = plan_lent c.args.held.lent in
    let a = c.args in
    let t = c.loop-t.t in
    let needed : c.set_need-needed.result ≡ need p a.q t = c.set_need-needed.ensures ∙ crossing_need p a.q c.crossing_flows-set.ensures t in
    let low = steps_from p a.held.valid c.requires.1 c.loop-t.invariant in
    record {
      steps = c.loop-t.invariant;
      passes = λ _. eq-false_of_not-eq-true (λ e. omega (arith, fails-need p a.held.valid t a.q (omega (arith, low, c.requires.1)) e, needed, c.if-needed-t.true));
    }

pub loop-t-smaller : goal.loop-t-smaller
loop-t-smaller c = omega (arith, c.loop-t-test.true, c.if-needed-t.false)

pub loop-t-preserved : goal.loop-t-preserved
loop-t-preserved c =
    let p = plan_lent c.args.held.lent in
    let a = c.args in
    let t = c.loop-t.t in
    let needed : c.set_need-needed.result ≡ need p a.q t = c.set_need-needed.ensures ∙ crossing_need p a.q c.crossing_flows-set.ensures t in
    subst (PortSteps p a.from) (sym needed)
    (next c.loop-t.invariant a.q c.requires.0 (need-fails p a.held.valid t a.q (omega (arith, needed, c.if-needed-t.false))))

pub returns : goal.returns
returns c = record { steps = c.loop-t.invariant; passes = λ l. absurd (omega (arith, l, c.loop-t-test.false)) }
