-- `put_flow_slot` meets its contract, by whether the slot has the field.
use mathlib.Core.Path.{ap, ◌∙◌}
use mathlib.Core.List.{List, [], ◌∷◌}
use Prim.Native.Nat.{ℕ, ◌+◌, ◌≤◌}
use native.Mathlib.Omega.{arith}
use lib.ListN.{length}
use Rattle.cqf.specs.Limits.{max_hops}
use Rattle.cqf.specs.Plan.{period_of, count_of, length_of, route_of}
use Rattle.plan.specs.Layout as wire
use Rattle.tables.specs.Lent.{plan_lent}
use Rattle.writing.specs.Laid.{laid}
use Rattle.writing.specs.Fields.{allowed_bytes}
use Rattle.saving.specs.declared.kind.Kind.{Kind}
use Rattle.saving.specs.Slots.{field_in}
use Rattle.saving.specs.laws.Slots.{slot_none, slot_one, flow_part}
use Rattle.saving.specs.laws.Sizes.{route_ports}
use Rattle.saving.specs.laws.Whole.{valid_range}
use Rattle.saving.proofs.slot.put_flow_slot.Goals as goal

pub returns-then-period-eq0 : goal.returns-then-period-eq0
returns-then-period-eq0 c =
    let a = c.args in
    let p = plan_lent a.held.lent in
    slot_none (field_in Kind.Flow p a.slot) a.out.now (period_of p a.slot) (omega arith)

pub returns : goal.returns
returns c =
    let a = c.args in
    let p = plan_lent a.held.lent in
    let f = a.slot in
    let ns = period_of p f ∷ count_of p f ∷ length_of p f ∷ [] in
    let few : length (route_of p f) ≤ max_hops = omega (arith, route_ports p f, (valid_range p a.held.valid).hops_most f c.requires) in
    slot_one (field_in Kind.Flow p f) a.out.now (period_of p f) c.if-period-eq0.false
    (c.put_flow.ensures
    ∙ ap (λ (r : List ℕ). laid (allowed_bytes wire.Kind.flow ((f + 1) ∷ ns) r) a.out.now) (c.route.ensures.route (omega arith))
    ∙ ap (λ (bs : List ℕ). laid bs a.out.now) (flow_part wire.Kind.flow f ns (route_of p f) few))
