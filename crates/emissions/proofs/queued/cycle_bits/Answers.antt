use Rattle.std.proofs.Common.{◌≡◌, true, ℕ, suc, ◌-◌, ◌≤◌, ◌<◌, sym, ◌∙◌, arith}
use lib.ListN.{length-set}
use Rattle.cqf.specs.Limits.{port_slots, flow_slots}
use Rattle.cqf.specs.Overflow.{most_widened}
use Rattle.cqf.specs.Plan.{Plan, valid_plan, route_of}
use Rattle.cqf.proofs.laws.Ranges.{extra_most}
use Rattle.cqf.proofs.laws.Valid.{Held}
use Rattle.tables.specs.Lent.{plan_lent}
use Rattle.emissions.specs.Queued.{queued_port}
use Rattle.emissions.specs.laws.Burst.{over_fits}
use Rattle.emissions.specs.laws.Queued.{sums_none, sums_skip, sums_add, sums_all, port_held, port-within, next_most}
use Rattle.emissions.proofs.queued.cycle_bits.Goals.{then-n-ne0, else-n-ne0}
use Rattle.emissions.proofs.queued.cycle_bits.Goals as goal

-- the port n at which the burst of flow f is queued
module _ (p : Plan) (valid : valid_plan p ≡ true) (q latest c f : ℕ) (l : f < flow_slots) (n : ℕ) (is : n ≡ queued_port (route_of p f) q latest c) (some : n ≡ 0 → ⊥) where
  in_slots : n - 1 < port_slots
  in_slots = omega (arith, port-within p valid q latest c f l, is, some)

  held : Held p f
  held = port_held p valid q latest c f l (omega (arith, is, some))

  -- its number is that of the burst's port
  port_is : queued_port (route_of p f) q latest c ≡ suc (n - 1)
  port_is = omega (arith, is, some)

pub overflow_cast-over : goal.overflow_cast-over
overflow_cast-over c =
    let a = c.args in
    let p = plan_lent a.held.lent in
    omega (arith, c.widened-over.ensures, over_fits p a.held.valid a.duration c.requires.0)

pub loop-f-init : goal.loop-f-init
loop-f-init c =
    let a = c.args in
    let p = plan_lent a.held.lent in
    (c.requires.3, sums_none p c.widened-over.result a.q a.latest a.c a.bits.now c.requires.4)

pub bounds-held-r : goal.bounds-held-r
bounds-held-r c =
    let a = c.args in
    let p = plan_lent a.held.lent in
    in_slots p a.held.valid a.q a.latest a.c c.loop-f.f (omega arith) c.from-n.result (c.from-n.ensures ∙ (rw (c.route.ensures.route (omega arith)) at c.queued_port.ensures)) c.if-n-ne0.true

pub flow_bits-more-requires : goal.flow_bits-more-requires
flow_bits-more-requires c =
    let a = c.args in
    let p = plan_lent a.held.lent in
    let h = held p a.held.valid a.q a.latest a.c c.loop-f.f (omega arith) c.from-n.result (c.from-n.ensures ∙ (rw (c.route.ensures.route (omega arith)) at c.queued_port.ensures)) c.if-n-ne0.true in
    let slot = in_slots p a.held.valid a.q a.latest a.c c.loop-f.f (omega arith) c.from-n.result (c.from-n.ensures ∙ (rw (c.route.ensures.route (omega arith)) at c.queued_port.ensures)) c.if-n-ne0.true in
    (h.period_least, h.period_most, h.count_most, h.bytes_most, h.jitter_most, extra_most p a.held.valid _ slot, omega (arith, c.widened-over.ensures, over_fits p a.held.valid a.duration c.requires.0))

pub bounds-bits-r : goal.bounds-bits-r
bounds-bits-r c =
    let a = c.args in
    let p = plan_lent a.held.lent in
    in_slots p a.held.valid a.q a.latest a.c c.loop-f.f (omega arith) c.from-n.result (c.from-n.ensures ∙ (rw (c.route.ensures.route (omega arith)) at c.queued_port.ensures)) c.if-n-ne0.true

pub overflow_add-bits : goal.overflow_add-bits
overflow_add-bits c =
    let a = c.args in
    let p = plan_lent a.held.lent in
    let slot = in_slots p a.held.valid a.q a.latest a.c c.loop-f.f (omega arith) c.from-n.result (c.from-n.ensures ∙ (rw (c.route.ensures.route (omega arith)) at c.queued_port.ensures)) c.if-n-ne0.true in
    let at = port_is p a.held.valid a.q a.latest a.c c.loop-f.f (omega arith) c.from-n.result (c.from-n.ensures ∙ (rw (c.route.ensures.route (omega arith)) at c.queued_port.ensures)) c.if-n-ne0.true in
    let most : c.widened-over.result ≤ most_widened = omega (arith, c.widened-over.ensures, over_fits p a.held.valid a.duration c.requires.0) in
    omega
    (arith, c.loop-f.invariant.1 (c.from-n.result - 1) slot, c.flow_bits-more.ensures, next_most p a.held.valid a.q a.latest a.c c.widened-over.result most (c.from-n.result - 1) slot c.loop-f.f (omega arith) at)

pub bounds-bits-r-then-n-ne0 : goal.bounds-bits-r-then-n-ne0
bounds-bits-r-then-n-ne0 c =
    let a = c.args in
    let p = plan_lent a.held.lent in
    in_slots p a.held.valid a.q a.latest a.c c.loop-f.f (omega arith) c.from-n.result (c.from-n.ensures ∙ (rw (c.route.ensures.route (omega arith)) at c.queued_port.ensures)) c.if-n-ne0.true

pub loop-f-preserved : goal.loop-f-preserved
loop-f-preserved c =
    let a = c.args in
    let p = plan_lent a.held.lent in
    let over = c.widened-over.result in
    let bits = c.loop-f.bits in
    let inv = c.loop-f.invariant in
    elim c.if-n-ne0.branch [
      | then-n-ne0 w ↦
          let slot = in_slots p a.held.valid a.q a.latest a.c c.loop-f.f (omega arith) c.from-n.result (c.from-n.ensures ∙ (rw (c.route.ensures.route (omega arith)) at c.queued_port.ensures)) w.if-n-ne0.true in
          let at = port_is p a.held.valid a.q a.latest a.c c.loop-f.f (omega arith) c.from-n.result (c.from-n.ensures ∙ (rw (c.route.ensures.route (omega arith)) at c.queued_port.ensures)) w.if-n-ne0.true in
          (rw w.bits-is (simp length-set inv.0), rw w.bits-is (sums_add p over a.q a.latest a.c c.loop-f.f bits (c.from-n.result - 1) w.flow_bits-more.result (omega (arith, slot, inv.0)) slot at w.flow_bits-more.ensures inv.1))
      | else-n-ne0 w ↦
          (rw w.bits-is inv.0, rw w.bits-is (sums_skip p over a.q a.latest a.c c.loop-f.f bits (sym (c.from-n.ensures ∙ (rw (c.route.ensures.route (omega arith)) at c.queued_port.ensures)) ∙ w.if-n-ne0.false) inv.1))
    ]

pub returns : goal.returns
returns c =
    let a = c.args in
    let p = plan_lent a.held.lent in
    let all : c.loop-f.f ≡ flow_slots = omega arith in
    sums_all p a.held.valid a.duration a.q a.c c.loop-f.bits c.widened-over.ensures c.requires.2 (rw all at c.loop-f.invariant.1)
