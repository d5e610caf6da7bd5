use mathlib.Core.Path.{◌≡◌, refl, sym, ap, ◌∙◌}
use mathlib.Core.List.{List}
use Prim.Native.Nat.{ℕ}
use native.Mathlib.Omega.{arith}
use Rattle.cqf.specs.Bounded.{max_to}
use Rattle.cqf.specs.Limits.{flow_slots}
use Rattle.tables.specs.Lent.{plan_lent}
use Rattle.emissions.specs.Burst.{late_on}
use Rattle.emissions.specs.laws.Hops.{latest_of, latest_next}
use Rattle.emissions.proofs.hop.latest_hop.Goals as goal

pub loop-f-init : goal.loop-f-init
unfolding max_to
loop-f-init c = refl

pub loop-f-preserved : goal.loop-f-preserved
loop-f-preserved c =
    let p = plan_lent c.args.held.lent in
    c.max-latest.ensures
    ∙ latest_next p c.args.q c.loop-f.f c.loop-f.invariant (c.late_on.ensures ∙ ap (λ (r : List ℕ). late_on r c.args.q) (c.route.ensures.route (omega arith)))

pub returns : goal.returns
returns c =
    let p = plan_lent c.args.held.lent in
    let all : c.loop-f.f ≡ flow_slots = omega arith in
    rw all at c.loop-f.invariant ∙ sym (latest_of p c.args.q)
