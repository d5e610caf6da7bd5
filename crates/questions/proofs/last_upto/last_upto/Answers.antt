use mathlib.Core.Path.{sym, ◌∙◌}
use native.Mathlib.Omega.{arith}
use Rattle.tables.specs.Lent.{plan_lent}
use Rattle.questions.specs.laws.Nearest.{lowered_ends, lowered_next}
use Rattle.questions.proofs.last_upto.last_upto.Goals as goal

pub returns-then-most-at : goal.returns-then-most-at
returns-then-most-at c =
    sym (lowered_ends (plan_lent c.args.held.lent) c.args.held.valid c.loop-at.invariant.0 (omega (arith, c.if-most-at.true, c.need_within-most.ensures)))

pub loop-at-preserved : goal.loop-at-preserved
loop-at-preserved c =
    let e = c.outgrown-at.ensures in (
      lowered_next (plan_lent c.args.held.lent) c.args.held.valid c.loop-at.invariant.0 c.outgrown-at.result e.0 e.1 e.2 _ (omega (arith, e.0)),
      c.outgrown-at.auto.out ∙ c.need_within-most.auto.out ∙ c.loop-at.invariant.1,
    )
