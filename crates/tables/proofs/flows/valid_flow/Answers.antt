-- `tables::flows::valid_flow` meets its contract: each way out has decided the tests of a flow's slot.
use mathlib.Core.Path.{sym, ◌∙◌}
use mathlib.Core.Bool.{or-false}
use native.Mathlib.Omega.{arith}
use Rattle.cqf.specs.Plan.{valid_flow}
use Rattle.cqf.proofs.laws.Slot.{slot_range, slot_route, ranged_hops}
use Rattle.tables.specs.Lent.{plan_lent}
use Rattle.tables.proofs.flows.valid_flow.Goals as goal

pub returns-then-period-eq0 : goal.returns-then-period-eq0
unfolding valid_flow
returns-then-period-eq0 c = c.is_empty.ensures ∙ sym (rw c.if-period-eq0.true (or-false _))

pub valid_route-requires : goal.valid_route-requires
valid_route-requires c = omega (arith, ranged_hops (plan_lent c.args.lent) c.args.f (sym c.flow_in_range.ensures ∙ c.if-flow_in_range.true))

pub returns-then-flow_in_range : goal.returns-then-flow_in_range
returns-then-flow_in_range c =
    c.valid_route.ensures ∙ sym (slot_route _ _ c.if-period-eq0.false (sym c.flow_in_range.ensures ∙ c.if-flow_in_range.true))

pub returns-else-flow_in_range : goal.returns-else-flow_in_range
returns-else-flow_in_range c =
    c.if-flow_in_range.false ∙ sym (slot_range _ _ c.if-period-eq0.false (sym c.flow_in_range.ensures ∙ c.if-flow_in_range.false))
