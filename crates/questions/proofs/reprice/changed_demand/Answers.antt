-- `questions::reprice::changed_demand` meets its contract: the flow's bits are taken off, and those of the other length added.
use native.Mathlib.Omega.{arith}
use Rattle.cqf.proofs.laws.Ranges.{extra_most}
use Rattle.tables.specs.Lent.{plan_lent}
use Rattle.questions.specs.laws.Sums.{slot_in_range, crossing_period}
use Rattle.questions.specs.laws.Widened.{widened_fits, widened_is}
use Rattle.questions.specs.laws.RepriceRoute.{changed_fits, own_bits, own-part, other_bits, demand_changed}
use Rattle.questions.proofs.reprice.changed_demand.Goals as goal

pub overflow_cast-over : goal.overflow_cast-over
overflow_cast-over c = omega (arith, c.widened-over.ensures, widened_fits _ c.args.held.valid c.args.duration c.requires.range.0)

pub held_bits-old-requires : goal.held_bits-old-requires
held_bits-old-requires c =
    let p = plan_lent c.args.held.lent in
    let valid = c.args.held.valid in
    let slots = slot_in_range p valid in
    let s = c.requires.range in
    let r = slots c.args.f s.2 in
    let least = crossing_period p slots c.args.q c.args.f s.2 c.requires.crossing in
    (least, r.period_most, r.count_most, r.bytes_most, r.jitter_most, extra_most p valid c.args.q s.1, omega (arith, c.widened-over.ensures, widened_fits p valid c.args.duration s.0))

pub held_bits-new-requires : goal.held_bits-new-requires
held_bits-new-requires c =
    let p = plan_lent c.args.held.lent in
    let valid = c.args.held.valid in
    let slots = slot_in_range p valid in
    let s = c.requires.range in
    let r = slots c.args.f s.2 in
    let least = crossing_period p slots c.args.q c.args.f s.2 c.requires.crossing in
    (least, r.period_most, r.count_most, s.4, r.jitter_most, extra_most p valid c.args.q s.1, omega (arith, c.widened-over.ensures, widened_fits p valid c.args.duration s.0))

pub overflow_sub-result : goal.overflow_sub-result
overflow_sub-result c =
    let p = plan_lent c.args.held.lent in
    let a = c.args in
    let s = c.requires.range in
    let old = own_bits p a.f a.q a.duration s.2 s.3 c.requires.crossing (widened_is p a.duration c.widened-over.ensures) c.held_bits-old.ensures in
    omega (arith, old, c.port_demand-bits.ensures, own-part p a.f a.q a.duration s.2 s.3 c.requires.crossing)

pub overflow_add-result : goal.overflow_add-result
overflow_add-result c =
    let p = plan_lent c.args.held.lent in
    let a = c.args in
    let valid = a.held.valid in
    let s = c.requires.range in
    let is = widened_is p a.duration c.widened-over.ensures in
    let old = own_bits p a.f a.q a.duration s.2 s.3 c.requires.crossing is c.held_bits-old.ensures in
    let new = other_bits p a.f a.q a.duration s.2 s.3 c.requires.crossing a.bytes is c.held_bits-new.ensures in
    let changed = demand_changed p a.f a.q a.duration s.2 s.3 c.requires.crossing a.bytes c.port_demand-bits.ensures old new in
    omega (arith, changed, changed_fits p (slot_in_range p valid) a.f a.bytes s.4 (extra_most p valid) a.duration (widened_fits p valid a.duration s.0) a.q s.1)

pub returns : goal.returns
returns c =
    let p = plan_lent c.args.held.lent in
    let a = c.args in
    let s = c.requires.range in
    let is = widened_is p a.duration c.widened-over.ensures in
    let old = own_bits p a.f a.q a.duration s.2 s.3 c.requires.crossing is c.held_bits-old.ensures in
    let new = other_bits p a.f a.q a.duration s.2 s.3 c.requires.crossing a.bytes is c.held_bits-new.ensures in
    demand_changed p a.f a.q a.duration s.2 s.3 c.requires.crossing a.bytes c.port_demand-bits.ensures old new
