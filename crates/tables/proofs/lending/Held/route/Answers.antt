-- `route` meets its contract: the part of the table is the flow's route.
use Rattle.std.specs.Prelude.{◌≡◌, ℕ, ◌+◌, ◌-◌, ◌*◌, ◌<◌, take, drop}
use Rattle.std.proofs.Common.{arith, ap, ◌∙◌, length-take}
use Rattle.cqf.specs.Limits.{flow_slots, route_stride}
use Rattle.cqf.specs.Plan.{hops_of}
use Rattle.tables.specs.Lent.{plan_lent}
use Rattle.tables.specs.laws.Route.{route_part, hops_few}
use Rattle.tables.proofs.lending.Held.route.Goals as goal

pub returns-then-f-ge-FLOWS-clause-route : goal.returns-then-f-ge-FLOWS-clause-route
returns-then-f-ge-FLOWS-clause-route c l = absurd (omega (arith, l, c.if-f-ge-FLOWS.true))

pub slice_bounds-result-end-2 : goal.slice_bounds-result-end-2
slice_bounds-result-end-2 c =
    omega (arith, c.from.ensures, hops_few (plan_lent c.args.self.lent) c.args.self.valid c.args.f (omega (arith, c.if-f-ge-FLOWS.false)))

pub returns-clause-route : goal.returns-clause-route
returns-clause-route c within =
    let p = plan_lent c.args.self.lent in
    let f = c.args.f in
    let base = f * route_stride in
    let many : base + c.from.result - base ≡ hops_of p f = omega (arith, c.from.ensures) in
    ap (λ (n : ℕ). take n (drop base p.routes)) many
    ∙ route_part p.routes base (hops_of p f) (omega (arith, c.from.ensures, hops_few p c.args.self.valid f within))

pub returns-clause-few : goal.returns-clause-few
returns-clause-few c =
    let within : c.args.f < flow_slots = omega (arith, c.if-f-ge-FLOWS.false) in
    simp length-take (omega (arith, c.from.ensures, hops_few (plan_lent c.args.self.lent) c.args.self.valid c.args.f within))
