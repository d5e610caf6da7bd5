use mathlib.Core.Path.{sym, ◌∙◌}
use borrow.Author.Rules.{rules}
use Rattle.questions.specs.Failing.{set_to}
use Rattle.questions.specs.laws.Sets.{set_or, set_skip}
use Rattle.questions.proofs.flow_set.flow_word.Goals as goal
use Rattle.questions.proofs.flow_set.flow_word.Goals.{then-route_holds, else-route_holds}

pub loop-i-init : goal.loop-i-init
unfolding set_to
loop-i-init c = search rules

pub loop-i-preserved : goal.loop-i-preserved
loop-i-preserved c =
    elim c.if-route_holds.branch [
      | then-route_holds w ↦ w.set-is ∙ set_or c.loop-i.i _ c.loop-i-test.true c.loop-i.invariant (sym c.route_holds.ensures ∙ w.if-route_holds.true)
      | else-route_holds w ↦ w.set-is ∙ set_skip c.loop-i.i _ c.loop-i.invariant (sym c.route_holds.ensures ∙ w.if-route_holds.false)
    ]
