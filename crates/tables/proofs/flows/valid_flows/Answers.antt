use mathlib.Core.Path.{sym, ◌∙◌}
use native.Mathlib.Omega.{arith}
use borrow.Author.Rules.{rules}
use Rattle.cqf.specs.Bounded.{all_to}
use Rattle.cqf.specs.Limits.{flow_slots}
use Rattle.cqf.proofs.laws.Bounds.{all_to-next, all_to_false}
use Rattle.tables.proofs.flows.valid_flows.Goals as goal

pub loop-f-init : goal.loop-f-init
unfolding all_to
loop-f-init c = search rules

pub returns-then-not-valid_flow : goal.returns-then-not-valid_flow
returns-then-not-valid_flow c =
    sym (all_to_false flow_slots _ c.loop-f.f (omega arith) (sym c.valid_flow.ensures ∙ c.if-not-valid_flow.true))

pub loop-f-preserved : goal.loop-f-preserved
loop-f-preserved c = all_to-next c.loop-f.f _ c.loop-f.invariant (sym c.valid_flow.ensures ∙ c.if-not-valid_flow.false)
