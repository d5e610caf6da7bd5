use mathlib.Core.Path.{◌≡◌, sym, ◌∙◌}
use native.Mathlib.Omega.{arith}
use borrow.Author.Rules.{rules}
use Rattle.cqf.specs.Bounded.{any_to}
use Rattle.cqf.specs.Limits.{flow_slots}
use Rattle.cqf.specs.Plan.{crosses}
use Rattle.cqf.specs.Condition.{crossed}
use Rattle.cqf.proofs.laws.Bounded.{any_to_some}
use Rattle.cqf.proofs.laws.Bounds.{any_to-next}
use Rattle.tables.specs.Lent.{plan_lent}
use Rattle.questions.proofs.highest.is_crossed.Goals as goal

pub loop-f-init : goal.loop-f-init
unfolding any_to
loop-f-init c = search rules

pub returns-then-route_holds : goal.returns-then-route_holds
unfolding crossed
returns-then-route_holds c =
    let a = c.args in
    sym (any_to_some flow_slots (λ f. crosses (plan_lent a.held.lent) f a.q) c.loop-f.f c.loop-f-test.true (sym c.route_holds.ensures ∙ c.if-route_holds.true))

pub loop-f-preserved : goal.loop-f-preserved
loop-f-preserved c =
    let a = c.args in
    any_to-next c.loop-f.f (λ f. crosses (plan_lent a.held.lent) f a.q) c.loop-f.invariant (sym c.route_holds.ensures ∙ c.if-route_holds.false)

pub returns : goal.returns
unfolding crossed
returns c =
    let all : c.loop-f.f ≡ flow_slots = omega arith in
    sym (rw all at c.loop-f.invariant)
