-- `queued_port` meets its contract: the route does not hold the port, the burst is not yet emitted, or it is on its way.
use mathlib.Core.Path.{◌≡◌, sym, ap, ◌∙◌}
use Prim.Native.Nat.{ℕ, ◌-◌}
use native.Mathlib.Omega.{arith}
use lib.ListN.{get_or}
use Rattle.emissions.specs.BadEmission.{hop_on}
use Rattle.emissions.specs.laws.Hops.{port-apart, port-before, port-found}
use Rattle.emissions.proofs.queued.queued_port.Goals as goal

pub returns-then-route-at : goal.returns-then-route-at
returns-then-route-at c =
    let a = c.args in
    sym (port-apart a.route.now a.q a.latest a.c (λ l. omega (arith, c.hop_on-at.ensures, l, c.if-route-at.true)))

pub returns-then-c-own : goal.returns-then-c-own
returns-then-c-own c =
    let a = c.args in
    let own : c.saturating_sub-own.result ≡ a.latest - hop_on a.route.now a.q = c.saturating_sub-own.ensures ∙ ap (λ (n : ℕ). a.latest - n) c.hop_on-at.ensures in
    sym (port-before a.route.now a.q a.latest a.c (omega (arith, own, c.if-c-own.true)))

pub returns : goal.returns
returns c =
    let a = c.args in
    let own : c.saturating_sub-own.result ≡ a.latest - hop_on a.route.now a.q = c.saturating_sub-own.ensures ∙ ap (λ (n : ℕ). a.latest - n) c.hop_on-at.ensures in
    c.port_at.ensures
    ∙ ap (λ (i : ℕ). get_or a.route.now i 0) (omega (arith, own))
    ∙ sym (port-found a.route.now a.q a.latest a.c (omega (arith, c.hop_on-at.ensures, c.if-route-at.false)) (omega (arith, own, c.if-c-own.false)))
