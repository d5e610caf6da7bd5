use mathlib.Core.Path.{◌≡◌, refl, sym, ap, ◌∙◌}
use mathlib.Core.Bool.{true, false, not, true≢false}
use mathlib.Core.List.{List, []}
use Prim.Native.Nat.{ℕ, ◌+◌, ◌-◌, ◌≤◌, ◌<◌}
use native.Mathlib.Omega.{arith}
use native.Mathlib.Nat.{zero-add}
use lib.ListN.{length, get_or, length-set, get_or-replicate}
use Rattle.cqf.specs.Bounded.{all_to, elem, every, sublist}
use Rattle.cqf.specs.Limits.{port_slots, port_ok}
use Rattle.cqf.specs.Plan.{port_in}
use Rattle.cqf.proofs.laws.Bounds.{all_to-next}
use Rattle.cqf.proofs.laws.Lists.{every-at}
use Rattle.plan.specs.Field.{route_ports, route_port, route_length}
use Rattle.plan.specs.laws.Route.{route_length_lem}
use Rattle.plan_reading.specs.laws.fields.Within.{within_low, within_high}
use Rattle.tables.specs.laws.Marks.{mark_next, marked_new, marked_again}
use Rattle.loading.specs.laws.Covers.{covers_set, set_most, port_there, every-marked}
use Rattle.loading.specs.laws.Twice.{passes, sublist_all, distinct_by, repeats-at}
use Rattle.loading.proofs.repeat.mark_named.Goals as goal

-- the port at a place of the route: the byte that is read, its place and its range
record Port (bytes : List ℕ) (at byte : ℕ) : Type 0 where
  told : byte ≡ get_or (route_ports bytes) (0 + at) 0
  inside : at < length (route_ports bytes)
  in_range : port_ok (get_or (route_ports bytes) (0 + at) 0) ≡ true
  low : 1 ≤ get_or (route_ports bytes) (0 + at) 0
  high : get_or (route_ports bytes) (0 + at) 0 ≤ port_slots

port_at
    : (bytes : List ℕ) (at byte : ℕ)
    → byte ≡ route_port bytes at
    → at < route_length bytes
    → every port_ok (route_ports bytes) ≡ true
    → Port bytes at byte
unfolding route_port
port_at bytes at byte e h ok =
    let inside : at < length (route_ports bytes) = omega (arith, route_length_lem bytes) in
    let in_range : port_ok (get_or (route_ports bytes) (0 + at) 0) ≡ true = every-at port_ok (route_ports bytes) ok (0 + at) (omega arith) in
    record {
      told = e ∙ ap (λ (k : ℕ). get_or (route_ports bytes) k 0) (sym (zero-add at));
      inside = inside;
      in_range = in_range;
      low = within_low 1 port_slots _ in_range;
      high = within_high 1 port_slots _ in_range;
    }

pub loop-i-init : goal.loop-i-init
unfolding all_to elem sublist every
loop-i-init c = (refl, refl, λ q h. get_or-replicate 64 q 0 0 h, c.requires.1, λ q h. h, refl, λ m before there. before)

pub low_byte-requires : goal.low_byte-requires
low_byte-requires c = (omega (arith, c.route_len-i-end.ensures), c.requires.0)

pub overflow_sub-slot : goal.overflow_sub-slot
overflow_sub-slot c =
    let p = port_at c.args.route.now c.loop-i.i c.low_byte.result c.low_byte.ensures (omega (arith, c.route_len-i-end.ensures)) c.requires.0 in
    omega (arith, p.told, p.low)

pub overflow_cast-slot : goal.overflow_cast-slot
overflow_cast-slot c =
    let p = port_at c.args.route.now c.loop-i.i c.low_byte.result c.low_byte.ensures (omega (arith, c.route_len-i-end.ensures)) c.requires.0 in
    omega (arith, p.told, p.low, p.high)

pub bounds-seen-slot : goal.bounds-seen-slot
bounds-seen-slot c =
    let p = port_at c.args.route.now c.loop-i.i c.low_byte.result c.low_byte.ensures (omega (arith, c.route_len-i-end.ensures)) c.requires.0 in
    omega (arith, p.told, p.low, p.high)

pub bounds-seen-slot-in-loop-i : goal.bounds-seen-slot-in-loop-i
bounds-seen-slot-in-loop-i c =
    let p = port_at c.args.route.now c.loop-i.i c.low_byte.result c.low_byte.ensures (omega (arith, c.route_len-i-end.ensures)) c.requires.0 in
    omega (arith, p.told, p.low, p.high)

pub bounds-named-slot : goal.bounds-named-slot
bounds-named-slot c =
    let p = port_at c.args.route.now c.loop-i.i c.low_byte.result c.low_byte.ensures (omega (arith, c.route_len-i-end.ensures)) c.requires.0 in
    omega (arith, p.told, p.low, p.high)

pub returns-then-seen-slot-ne0 : goal.returns-then-seen-slot-ne0
returns-then-seen-slot-ne0 c =
    let i = c.loop-i.invariant in
    let p = port_at c.args.route.now c.loop-i.i c.low_byte.result c.low_byte.ensures (omega (arith, c.route_len-i-end.ensures)) c.requires.0 in (
      sym (ap not (repeats-at _ c.requires.0 c.loop-i.i p.inside
          (marked_again c.loop-i.seen _ _ i.2 p.low p.high (rw p.told at c.if-seen-slot-ne0.true)))),
      i.3,
      i.4,
      λ e. absurd (true≢false e),
      i.6,
    )

pub loop-i-preserved : goal.loop-i-preserved
loop-i-preserved c =
    let i = c.loop-i.invariant in
    let at = c.loop-i.i in
    let p = port_at c.args.route.now at c.low_byte.result c.low_byte.ensures (omega (arith, c.route_len-i-end.ensures)) c.requires.0 in
    let r = route_ports c.args.route.now in
    let n = get_or r (0 + at) 0 in
    let new : elem n (sublist r 0 at) ≡ false = marked_new c.loop-i.seen _ _ i.2 p.low p.high (rw p.told at c.if-seen-slot-ne0.false) in (
      simp length-set i.0,
      all_to-next at (passes r) i.1 (rw (p.in_range, new)),
      rw p.told (mark_next [] c.loop-i.seen r 0 at (λ _. 1) 1 i.2 p.low (omega (arith, p.high, i.0)) new refl),
      simp length-set i.3,
      λ q h. covers_set c.loop-i.named _ 1 (omega arith) q (i.4 q h),
      rw p.told (every-marked c.loop-i.named r at i.5 p.in_range i.3),
      λ m before there.
          rw p.told
          (set_most c.loop-i.named m (n - 1) (i.6 m before there) (port_there m n (every-at (port_in m) r there (0 + at) (omega (arith, p.inside))))),
    )

pub returns : goal.returns
returns c =
    let i = c.loop-i.invariant in
    let r = route_ports c.args.route.now in
    let all : c.loop-i.i ≡ length r = omega (arith, route_length_lem c.args.route.now, c.route_len-i-end.ensures) in (
      sym (ap not (distinct_by _ c.requires.0 ∙ (rw all at i.1))),
      i.3,
      i.4,
      λ e. sym (ap (every (port_in c.loop-i.named)) (sublist_all r)) ∙ (rw all at i.5),
      i.6,
    )
