use mathlib.Core.Path.{◌≡◌, ap, ap₂}
use Prim.Native.Nat.{ℕ, ◌+◌, ◌-◌, ◌*◌, ◌<◌}
use native.Mathlib.Omega.{arith}
use lib.ListN.{get_or}
use Rattle.cqf.specs.Bounded.{sublist}
use Rattle.cqf.specs.Limits.{port_slots}
use Rattle.tables.specs.laws.Marks.{mark_none, mark_next, unmarked}
use Rattle.questions.specs.laws.Sums.{slot_in_range, route_next}
use Rattle.questions.proofs.demand.add_route.Invariants.{bits_in}
use Rattle.questions.proofs.demand.add_route.Goals as goal

pub loop-i-init : goal.loop-i-init
unfolding sublist
loop-i-init c = mark_none c.args.out.now _

pub bounds-lent-base : goal.bounds-lent-base
bounds-lent-base c = omega (arith, (slot_in_range _ c.args.held.valid c.args.f c.requires.slot.0).hops_most)

pub overflow_sub-q : goal.overflow_sub-q
overflow_sub-q c = omega (arith, route_next _ c.args.held.valid c.args.f c.loop-i.i c.requires.slot.0 c.loop-i-test.true)

pub bounds-lent-q : goal.bounds-lent-q
bounds-lent-q c = omega (arith, route_next _ c.args.held.valid c.args.f c.loop-i.i c.requires.slot.0 c.loop-i-test.true)

pub overflow_mul-out : goal.overflow_mul-out
overflow_mul-out c =
    let a = c.args in
    let lent = a.held.lent in
    let q = get_or lent.routes.now (a.f * 24 + c.loop-i.i) 0 - 1 in
    let n = route_next _ a.held.valid a.f c.loop-i.i c.requires.slot.0 c.loop-i-test.true in
    let bits : a.frames * c.wire_bits.result ≡ bits_in a.frames (get_or lent.lengths.now a.f 0) lent.extras.now q = ap (λ (n : ℕ). a.frames * n) c.wire_bits.ensures in
    let slot : q < port_slots = omega (arith, n) in
    omega (arith, bits, c.requires.by_index q slot)

pub bounds-out-q : goal.bounds-out-q
bounds-out-q c = omega (arith, c.requires.slot.1, route_next _ c.args.held.valid c.args.f c.loop-i.i c.requires.slot.0 c.loop-i-test.true)

pub overflow_add-out : goal.overflow_add-out
overflow_add-out c =
    let a = c.args in
    let lent = a.held.lent in
    let q = get_or lent.routes.now (a.f * 24 + c.loop-i.i) 0 - 1 in
    let n = route_next _ a.held.valid a.f c.loop-i.i c.requires.slot.0 c.loop-i-test.true in
    let same = unmarked a.out.now c.loop-i.out (sublist lent.routes.now (a.f * 24) c.loop-i.i) _ _ c.loop-i.invariant n.0 n.1 n.2 in
    let bits : a.frames * c.wire_bits.result ≡ bits_in a.frames (get_or lent.lengths.now a.f 0) lent.extras.now q = ap (λ (n : ℕ). a.frames * n) c.wire_bits.ensures in
    let slot : q < port_slots = omega (arith, n) in
    omega (arith, same, bits, c.requires.by_index q slot)

pub bounds-out-q-in-loop-i : goal.bounds-out-q-in-loop-i
bounds-out-q-in-loop-i c = omega (arith, c.requires.slot.1, route_next _ c.args.held.valid c.args.f c.loop-i.i c.requires.slot.0 c.loop-i-test.true)

pub loop-i-preserved : goal.loop-i-preserved
loop-i-preserved c =
    let a = c.args in
    let lent = a.held.lent in
    let i = c.loop-i.i in
    let q = get_or lent.routes.now (a.f * 24 + i) 0 - 1 in
    let v = bits_in a.frames (get_or lent.lengths.now a.f 0) lent.extras.now in
    let n = route_next _ a.held.valid a.f i c.requires.slot.0 c.loop-i-test.true in
    let same = unmarked a.out.now c.loop-i.out (sublist lent.routes.now (a.f * 24) i) _ v c.loop-i.invariant n.0 n.1 n.2 in
    let bits : a.frames * c.wire_bits.result ≡ v q = ap (λ (n : ℕ). a.frames * n) c.wire_bits.ensures in
    mark_next a.out.now c.loop-i.out lent.routes.now (a.f * 24) i v (get_or c.loop-i.out q 0 + a.frames * c.wire_bits.result)
    c.loop-i.invariant n.0 (omega (arith, n.1, c.requires.slot.1)) n.2 (ap₂ (λ (x y : ℕ). x + y) same bits)
