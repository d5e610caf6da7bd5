-- `burst_of` meets its contract.
use Prim.Native.Nat.{◌*◌}
use native.Mathlib.Omega.{arith}
use mathlib.Core.Path.{ap, ◌∙◌}
use lib.ListN.{length}
use Rattle.cqf.specs.Plan.{hops_of}
use Rattle.cqf.proofs.laws.Lists.{sublist_length}
use Rattle.cqf.specs.Limits.{max_count, route_stride}
use Rattle.cqf.specs.Overflow.{most_begun}
use Rattle.cqf.proofs.laws.Ranges.{top_most}
use Rattle.tables.specs.Lent.{plan_lent}
use Rattle.emissions.specs.laws.Burst.{over_fits, flow_held, latest_most, cycle_is, brought_is, frames_is, burst_is, kept_most}
use Rattle.emissions.proofs.burst.burst_of.Goals as goal

pub overflow_cast-over : goal.overflow_cast-over
overflow_cast-over c =
    omega (arith, c.widened-over.ensures, over_fits (plan_lent c.args.held.lent) c.args.held.valid c.args.duration c.requires.0)

pub flow_frames-brought-requires : goal.flow_frames-brought-requires
flow_frames-brought-requires c =
    let a = c.args in
    let p = plan_lent a.held.lent in
    let h = flow_held p a.held.valid a.f c.requires.2 c.requires.3 in
    (h.period_least, h.period_most, h.count_most, h.jitter_most, omega (arith, c.widened-over.ensures, over_fits p a.held.valid a.duration c.requires.0))

pub instant_in-instant-requires : goal.instant_in-instant-requires
instant_in-instant-requires c =
    let a = c.args in
    let p = plan_lent a.held.lent in
    let h = flow_held p a.held.valid a.f c.requires.2 c.requires.3 in (
      omega (arith, c.saturating_sub-cycle.ensures, c.latest_hop-latest.ensures, latest_most p a.held.valid a.q),
      omega (arith, c.requires.0, top_most p a.held.valid),
      h.count_least,
      h.period_most,
      omega (arith, c.frames_if-frames.ensures, kept_most c.hop_on-at.result (length c.route-ports.result.now) c.flow_frames-brought.result (max_count * most_begun) c.flow_frames-brought.ensures.1),
    )

pub returns : goal.returns
returns c =
    let a = c.args in
    let p = plan_lent a.held.lent in
    let v = a.held.valid in
    let at = rw (c.route-ports.ensures.route (omega arith)) at c.hop_on-at.ensures in
    let long = ap length (c.route-ports.ensures.route (omega arith)) ∙ sublist_length p.routes (a.f * route_stride) (hops_of p a.f) in
    burst_is p v a.duration a.q a.f a.k
    (cycle_is p v a.duration a.q a.f c.latest_hop-latest.ensures at c.saturating_sub-cycle.ensures)
    (frames_is p v a.duration a.q a.f c.requires.2 c.requires.3 at (brought_is p v a.duration a.q a.f c.widened-over.ensures c.flow_frames-brought.ensures.0) (rw long at c.frames_if-frames.ensures))
    c.instant_in-instant.ensures
