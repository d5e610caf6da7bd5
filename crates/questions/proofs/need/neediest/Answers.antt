use native.Mathlib.Omega.{arith}
use Rattle.questions.specs.laws.Neediest.{neediest_start, neediest_more, neediest_same, neediest_is}
use Rattle.questions.proofs.need.neediest.Goals as goal
use Rattle.questions.proofs.need.neediest.Goals.{then-most-needed, else-most-needed}

pub loop-q-init : goal.loop-q-init
loop-q-init c = neediest_start _

pub loop-q-preserved : goal.loop-q-preserved
loop-q-preserved c =
    elim c.if-most-needed.branch [
      | then-most-needed w ↦ rw (w.most-is, w.at-is) (neediest_more c.loop-q.invariant c.loop-q-test.true c.need-needed.ensures w.if-most-needed.true)
      | else-most-needed w ↦ rw (w.most-is, w.at-is) (neediest_same c.loop-q.invariant c.loop-q-test.true c.need-needed.ensures w.if-most-needed.false)
    ]

pub returns : goal.returns
returns c = neediest_is c.loop-q.invariant (omega arith)
