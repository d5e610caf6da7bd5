use mathlib.Core.Path.{◌≡◌, refl, sym, ◌∙◌}
use Prim.Native.Nat.{suc, ◌+◌, ◌-◌, ◌*◌, ◌<◌}
use native.Mathlib.Nat.{le_trans, le_of_eq}
use native.Mathlib.Omega.{arith}
use lib.ListN.{get_or}
use mir.Syntax.{w64}
use mir.Val.{to_z, of_z}
use mir.ValLaws.{to_z-of_z}
use Rattle.cqf.specs.Bounded.{elem, sublist}
use Rattle.cqf.specs.Limits.{port_slots}
use Rattle.cqf.specs.Condition.{slack}
use Rattle.cqf.specs.Reprice.{with_length, repriced}
use Rattle.cqf.proofs.laws.Ranges.{extra_most, top_most}
use Rattle.cqf.proofs.laws.Replaced.{replaced-none}
use Rattle.tables.specs.Lent.{plan_lent}
use Rattle.questions.specs.laws.Sums.{slot_in_range, route_next, elem_here}
use Rattle.questions.specs.laws.Widened.{widened_fits}
use Rattle.questions.specs.laws.RepriceRoute.{changed_fits, changed_slack, repriced-next}
use Rattle.questions.proofs.reprice.reprice_route.Goals as goal

pub loop-i-init : goal.loop-i-init
unfolding elem sublist
loop-i-init c = sym (replaced-none _ _ c.args.out.now (λ q. refl))

pub bounds-lent-base : goal.bounds-lent-base
bounds-lent-base c = omega (arith, (slot_in_range _ c.args.held.valid c.args.f c.requires.1).hops_most)

pub overflow_sub-q : goal.overflow_sub-q
overflow_sub-q c = omega (arith, route_next _ c.args.held.valid c.args.f c.loop-i.i c.requires.1 c.loop-i-test.true)

pub changed_demand-bits-requires-clause-range : goal.changed_demand-bits-requires-clause-range
changed_demand-bits-requires-clause-range c =
    let s = c.requires in
    (s.0, omega (arith, route_next _ c.args.held.valid c.args.f c.loop-i.i s.1 c.loop-i-test.true), s.1, s.2, s.3)

pub changed_demand-bits-requires-clause-crossing : goal.changed_demand-bits-requires-clause-crossing
changed_demand-bits-requires-clause-crossing c =
    let a = c.args in
    let i = c.loop-i.i in
    let l = a.held.lent.routes.now in
    let n = route_next _ a.held.valid a.f i c.requires.1 c.loop-i-test.true in
    elem_here l (a.f * 24) (get_or a.held.lent.hops.now a.f 0) i (suc (get_or l (a.f * 24 + i) 0 - 1)) c.loop-i-test.true (omega (arith, n))

pub bounds-lent-q : goal.bounds-lent-q
bounds-lent-q c = omega (arith, route_next _ c.args.held.valid c.args.f c.loop-i.i c.requires.1 c.loop-i-test.true)

pub bounds-lent-q-in-loop-i : goal.bounds-lent-q-in-loop-i
bounds-lent-q-in-loop-i c = omega (arith, route_next _ c.args.held.valid c.args.f c.loop-i.i c.requires.1 c.loop-i-test.true)

pub bounds-lent-q-in-loop-i-2 : goal.bounds-lent-q-in-loop-i-2
bounds-lent-q-in-loop-i-2 c = omega (arith, route_next _ c.args.held.valid c.args.f c.loop-i.i c.requires.1 c.loop-i-test.true)

pub port_slack-slack-requires : goal.port_slack-slack-requires
port_slack-slack-requires c =
    let p = plan_lent c.args.held.lent in
    let a = c.args in
    let valid = a.held.valid in
    let s = c.requires in
    let q = get_or a.held.lent.routes.now (a.f * 24 + c.loop-i.i) 0 - 1 in
    let slot : q < port_slots = omega (arith, route_next _ valid a.f c.loop-i.i s.1 c.loop-i-test.true) in (
      omega (arith, c.window-available.ensures, top_most p valid, s.0),
      le_trans (le_of_eq c.changed_demand-bits.ensures) (changed_fits p (slot_in_range p valid) a.f a.bytes s.3 (extra_most p valid) a.duration (widened_fits p valid a.duration s.0) q slot),
    )

pub bounds-out-q : goal.bounds-out-q
bounds-out-q c = omega (arith, c.requires.4, route_next _ c.args.held.valid c.args.f c.loop-i.i c.requires.1 c.loop-i-test.true)

pub loop-i-preserved : goal.loop-i-preserved
loop-i-preserved c =
    let p = plan_lent c.args.held.lent in
    let a = c.args in
    let l = a.held.lent.routes.now in
    let q = get_or l (a.f * 24 + c.loop-i.i) 0 - 1 in
    let n = route_next _ a.held.valid a.f c.loop-i.i c.requires.1 c.loop-i-test.true in
    let is = changed_slack p a.f a.bytes q a.duration c.window-available.ensures c.changed_demand-bits.ensures c.port_slack-slack.ensures in
    repriced-next l (a.f * 24) c.loop-i.i (λ q. slack (with_length p a.f a.bytes) q a.duration) a.out.now c.loop-i.out
    (to_z w64 (of_z w64 c.port_slack-slack.result)) c.loop-i.invariant n.0
    (to_z-of_z w64 c.port_slack-slack.result (record { sfits = c.port_slack-slack.type_inv }) ∙ is)

pub returns : goal.returns
unfolding repriced
returns c =
    let all : c.loop-i.i ≡ get_or c.args.held.lent.hops.now c.args.f 0 = omega arith in
    rw all at c.loop-i.invariant
