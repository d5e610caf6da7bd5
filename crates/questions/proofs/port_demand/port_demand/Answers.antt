use mathlib.Core.Path.{◌≡◌, sym, ◌∙◌}
use Prim.Native.Nat.{◌+◌, ◌≤◌}
use native.Mathlib.Omega.{arith}
use borrow.Author.Rules.{rules}
use Rattle.cqf.specs.Bounded.{sum_to}
use Rattle.cqf.specs.Limits.{flow_slots}
use Rattle.cqf.proofs.laws.Demand.{demand_sum}
use Rattle.cqf.proofs.laws.Ranges.{extra_most}
use Rattle.tables.specs.Lent.{plan_lent}
use Rattle.questions.specs.laws.Sums.{slot_in_range, sum_crossing, sum_apart, sum_most, crossing_period}
use Rattle.questions.specs.laws.Widened.{widened_fits, widened_is, widened_short}
use Rattle.questions.proofs.port_demand.port_demand.Goals as goal
use Rattle.questions.proofs.port_demand.port_demand.Goals.{then-route_holds, else-route_holds}

pub overflow_cast-over : goal.overflow_cast-over
overflow_cast-over c = omega (arith, c.widened-over.ensures, widened_fits _ c.args.held.valid c.args.duration c.requires.0)

pub loop-f-init : goal.loop-f-init
unfolding sum_to
loop-f-init c = search rules

pub held_bits-bits-requires : goal.held_bits-bits-requires
held_bits-bits-requires c =
    let p = plan_lent c.args.held.lent in
    let valid = c.args.held.valid in
    let slots = slot_in_range p valid in
    let r = slots c.loop-f.f c.loop-f-test.true in
    let least = crossing_period p slots c.args.q c.loop-f.f c.loop-f-test.true (sym c.route_holds.ensures ∙ c.if-route_holds.true) in
    (least, r.period_most, r.count_most, r.bytes_most, r.jitter_most, extra_most p valid c.args.q c.requires.1, omega (arith, c.widened-over.ensures, widened_fits p valid c.args.duration c.requires.0))

pub overflow_add-bits : goal.overflow_add-bits
overflow_add-bits c =
    let p = plan_lent c.args.held.lent in
    let valid = c.args.held.valid in
    let T = c.args.duration in
    let f = c.loop-f.f in
    let is = widened_is p T c.widened-over.ensures in
    let fits = widened_short p T valid c.requires.0 in
    let next : f + 1 ≤ flow_slots = omega (arith, c.loop-f-test.true) in
    omega
    (arith, sum_crossing p c.args.q T f c.loop-f.invariant (sym c.route_holds.ensures ∙ c.if-route_holds.true) is c.held_bits-bits.ensures, sum_most p (slot_in_range p valid) (extra_most p valid) T fits c.args.q (f + 1) c.requires.1 next)

pub loop-f-preserved : goal.loop-f-preserved
loop-f-preserved c =
    let p = plan_lent c.args.held.lent in
    let q = c.args.q in
    let T = c.args.duration in
    let is = widened_is p T c.widened-over.ensures in
    let f = c.loop-f.f in
    let sum = c.loop-f.invariant in
    let holds = c.route_holds.ensures in
    elim c.if-route_holds.branch [
      | then-route_holds w ↦ w.bits-is ∙ sum_crossing p q T f sum (sym holds ∙ w.if-route_holds.true) is w.held_bits-bits.ensures
      | else-route_holds w ↦ w.bits-is ∙ sum_apart p q T f sum (sym holds ∙ w.if-route_holds.false)
    ]

pub returns : goal.returns
returns c =
    let all : c.loop-f.f ≡ flow_slots = omega arith in
    rw all at c.loop-f.invariant ∙ sym (demand_sum (plan_lent c.args.held.lent) c.args.q c.args.duration)
