-- `first_failing` meets its contract, by whether the number at the place passes.
use Rattle.std.proofs.Common.{sym, ◌∙◌, arith}
use Rattle.plan_text.specs.laws.Failing.{failing_from, failing_more, failing_here, failing_end}
use Rattle.plan_text.proofs.tests.first_failing.Goals as goal

pub loop-i-init : goal.loop-i-init
loop-i-init g c test same = failing_from test c.args.list.now

pub returns-then-not-passes : goal.returns-then-not-passes
returns-then-not-passes g c test same = (
  omega arith,
  c.loop-i.invariant test same ∙ failing_here test c.args.list.now c.loop-i.i (omega arith) (sym (same _ _ _ c.passes.ensures) ∙ c.if-not-passes.true),
)

pub loop-i-preserved : goal.loop-i-preserved
loop-i-preserved g c test same =
    c.loop-i.invariant test same ∙ failing_more test c.args.list.now c.loop-i.i (omega arith) (sym (same _ _ _ c.passes.ensures) ∙ c.if-not-passes.false)

pub returns : goal.returns
returns g c test same = omega (arith, c.loop-i.invariant test same, failing_end test c.args.list.now c.loop-i.i (omega arith))
