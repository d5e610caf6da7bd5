use mathlib.Core.Path.{◌≡◌, sym, ap, ◌∙◌}
use Prim.Native.Nat.{ℕ, suc, ◌+◌, ◌*◌}
use native.Mathlib.Omega.{arith}
use borrow.Author.Rules.{rules}
use lib.ListN.{get_or}
use lib.Dec.{eqb}
use Rattle.std.proofs.Common.{add-one}
use Rattle.cqf.specs.Bounded.{elem, sublist}
use Rattle.cqf.proofs.laws.Route.{sublist_more, elem_more}
use Rattle.questions.specs.laws.Sums.{slot_in_range, elem_next, elem_here}
use Rattle.questions.proofs.port_demand.route_holds.Goals as goal
use Rattle.questions.proofs.port_demand.route_holds.Goals.{then-port-routes-via-then-port-routes, then-port-routes-via-else-port-routes+then-port-routes-2}

pub loop-i-init : goal.loop-i-init
unfolding elem sublist
loop-i-init c = search rules

pub bounds-routes-base : goal.bounds-routes-base
bounds-routes-base c = omega (arith, (slot_in_range _ c.args.held.valid c.args.f c.requires.0).hops_most)

pub bounds-routes-base-else-port-routes : goal.bounds-routes-base-else-port-routes
bounds-routes-base-else-port-routes c = omega (arith, (slot_in_range _ c.args.held.valid c.args.f c.requires.0).hops_most)

pub returns-then-port-routes : goal.returns-then-port-routes
returns-then-port-routes c =
    let a = c.args in
    let l = a.held.lent.routes.now in
    let base = a.f * 24 in
    let hops = get_or a.held.lent.hops.now a.f 0 in
    let i = c.loop-i.i in
    let place : base + (i + 1) ≡ base + i + 1 = omega arith in
    elim c.then-port-routes.branch [
      | then-port-routes-via-then-port-routes w ↦ sym (elem_here l base hops i (suc a.q) (omega arith) (omega (arith, w.if-port-routes.true)))
      -- the second of the two
      | then-port-routes-via-else-port-routes+then-port-routes-2 w ↦
          sym (elem_here l base hops (i + 1) (suc a.q) (omega arith) (ap (λ (n : ℕ). get_or l n 0) place ∙ omega (arith, w.if-port-routes-2.true)))
    ]

pub loop-i-preserved : goal.loop-i-preserved
loop-i-preserved c =
    let a = c.args in
    let l = a.held.lent.routes.now in
    let base = a.f * 24 in
    let i = c.loop-i.i in
    let place : base + (i + 1) ≡ base + i + 1 = omega arith in
    let two : i + 1 + 1 ≡ i + 2 = omega arith in
    let first = elem_next l base i (suc a.q) c.loop-i.invariant.2 (λ e. c.if-port-routes.false (omega arith)) in
    let second = elem_next l base (i + 1) (suc a.q) first (λ e. c.if-port-routes-2.false (omega (arith, sym (ap (λ (n : ℕ). get_or l n 0) place) ∙ e))) in
    (omega arith, omega arith, sym (ap (λ (n : ℕ). elem (suc a.q) (sublist l base n)) two) ∙ second)

pub bounds-routes-base-then-i-hops : goal.bounds-routes-base-then-i-hops
bounds-routes-base-then-i-hops c = omega (arith, (slot_in_range _ c.args.held.valid c.args.f c.requires.0).hops_most)

-- the last of an odd number
pub returns-then-i-hops : goal.returns-then-i-hops
returns-then-i-hops c =
    let a = c.args in
    let l = a.held.lent.routes.now in
    let base = a.f * 24 in
    let i = c.loop-i.i in
    let all : suc i ≡ get_or a.held.lent.hops.now a.f 0 = omega arith in
    let e : elem (suc a.q) (sublist l base (suc i)) ≡ eqb (suc a.q) (get_or l (base + i) 0) =
    rw (sublist_more l base i, elem_more (suc a.q) (sublist l base i) (get_or l (base + i) 0), c.loop-i.invariant.2) in
    rw (add-one a.q) (sym (rw all at e))
