use mathlib.Core.Path.{◌≡◌}
use Prim.Native.Nat.{◌*◌, ◌≤◌}
use native.Mathlib.Omega.{arith}
use lib.ListN.{length}
use Rattle.cqf.specs.Limits.{port_slots, flow_slots}
use Rattle.cqf.specs.Overflow.{most_bits}
use Rattle.cqf.specs.Plan.{length_of, extra_of}
use Rattle.cqf.specs.Port.{bits_of}
use Rattle.cqf.proofs.laws.Ranges.{extra_most}
use Rattle.tables.specs.Lent.{plan_lent}
use Rattle.questions.specs.laws.Sums.{slot_in_range, framed, sums_none, sums_skip, sums_add, sums_all, flow_most, sum_most}
use Rattle.questions.specs.laws.Widened.{widened_fits, widened_is, widened_short}
use Rattle.questions.proofs.demand.demands.Goals as goal
use Rattle.questions.proofs.demand.demands.Goals.{then-period-ne0, else-period-ne0}

pub overflow_cast-over : goal.overflow_cast-over
overflow_cast-over c = omega (arith, c.widened-over.ensures, widened_fits _ c.args.held.valid c.args.duration c.requires.0)

pub loop-f-init : goal.loop-f-init
loop-f-init c = sums_none _ _ _ (λ q l. c.clear.ensures q (omega (arith, c.requires.1)))

pub held_frames-frames-requires : goal.held_frames-frames-requires
held_frames-frames-requires c =
    let r = slot_in_range _ c.args.held.valid c.loop-f.f c.loop-f-test.true in
    (r.period_least c.if-period-ne0.true, r.period_most, r.count_most, r.jitter_most, omega (arith, c.widened-over.ensures, widened_fits _ c.args.held.valid c.args.duration c.requires.0))

pub add_route-requires-clause-by_index : goal.add_route-requires-clause-by_index
add_route-requires-clause-by_index c = λ q h.
    let p = plan_lent c.args.held.lent in
    let valid = c.args.held.valid in
    let T = c.args.duration in
    let f = c.loop-f.f in
    let is = widened_is p T c.widened-over.ensures in
    let fits = widened_short p T valid c.requires.0 in
    let slots = slot_in_range p valid in
    let few : c.held_frames-frames.result * bits_of (length_of p f) (extra_of p q) ≤ most_bits =
    rw (framed p T f is c.held_frames-frames.ensures) (flow_most p slots (extra_most p valid) T fits f c.loop-f-test.true c.if-period-ne0.true q h) in
    omega (arith, few, c.loop-f.invariant q h, sum_most p slots (extra_most p valid) T fits q f h (omega arith))

pub loop-f-preserved : goal.loop-f-preserved
loop-f-preserved c =
    let p = plan_lent c.args.held.lent in
    let T = c.args.duration in
    let f = c.loop-f.f in
    let out = c.loop-f.out in
    let sums = c.loop-f.invariant in
    let is = widened_is p T c.widened-over.ensures in
    elim c.if-period-ne0.branch [
      | then-period-ne0 w ↦ rw w.out-is (sums_add p T f w.held_frames-frames.result out w.add_route.new.out (framed p T f is w.held_frames-frames.ensures) w.add_route.ensures sums)
      | else-period-ne0 w ↦ rw w.out-is (sums_skip p T f out ((slot_in_range p c.args.held.valid f c.loop-f-test.true).absent w.if-period-ne0.false) sums)
    ]

pub returns : goal.returns
returns c =
    let all : c.loop-f.f ≡ flow_slots = omega arith in
    let long : length c.loop-f.out ≡ port_slots = omega (arith, c.requires.1) in
    sums_all (plan_lent c.args.held.lent) c.args.duration c.loop-f.out long (rw all at c.loop-f.invariant)
