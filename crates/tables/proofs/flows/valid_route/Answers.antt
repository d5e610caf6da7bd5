use mathlib.Core.Path.{◌≡◌, refl, sym, ◌∙◌}
use mathlib.Core.Bool.{true, false, ◌&&◌, and-false}
use mathlib.Core.List.{List, []}
use Prim.Native.Nat.{ℕ, ◌+◌, ◌<◌}
use native.Mathlib.Omega.{arith}
use lib.ListN.{get_or, length-set, get_or-replicate}
use Rattle.cqf.specs.Bounded.{all_to, elem, every, distinct, sublist}
use Rattle.cqf.specs.Plan.{port_in}
use Rattle.cqf.proofs.laws.Bounds.{all_to-next, all_to_false}
use Rattle.cqf.proofs.laws.Route.{route_test, port_in_low, port_in_high, port_in_absent, port_in_there}
use Rattle.tables.specs.laws.Marks.{mark_next, marked_new, marked_again}
use Rattle.tables.proofs.flows.valid_route.Invariants.{passes}
use Rattle.tables.proofs.flows.valid_route.Goals as goal
use Rattle.tables.proofs.flows.valid_route.Goals.{then-n-lt1-via-then-n-lt1, then-n-lt1-via-else-n-lt1+then-n-gt-LAST_PORT, then-rates-q-eq0-via-then-rates-q-eq0, then-rates-q-eq0-via-else-rates-q-eq0+then-seen-q-ne0}

-- one port that fails the test makes the route invalid
module _ (rates routes : List ℕ) (base hops i : ℕ) (within : i < hops) where
  invalid : passes rates routes base i ≡ false → false ≡ every (port_in rates) (sublist routes base hops) && distinct (sublist routes base hops)
  invalid e = sym (route_test (port_in rates) routes base hops ∙ all_to_false hops (passes rates routes base) i within e)

  outside
      : port_in rates (get_or routes (base + i) 0) ≡ false
      → false ≡ every (port_in rates) (sublist routes base hops) && distinct (sublist routes base hops)
  outside e = invalid (rw e)

  twice
      : elem (get_or routes (base + i) 0) (sublist routes base i) ≡ true
      → false ≡ every (port_in rates) (sublist routes base hops) && distinct (sublist routes base hops)
  twice e = invalid (rw e (and-false (port_in rates (get_or routes (base + i) 0))))

pub loop-i-init : goal.loop-i-init
unfolding all_to elem sublist
loop-i-init c = (refl, refl, λ q h. get_or-replicate 64 q 0 0 h)

pub returns-then-n-lt1 : goal.returns-then-n-lt1
returns-then-n-lt1 c =
    let a = c.args in
    outside a.rates.now a.routes.now a.base a.hops c.loop-i.i c.loop-i-test.true
    (elim c.then-n-lt1.branch [
      | then-n-lt1-via-then-n-lt1 w ↦ port_in_low a.rates.now _ w.if-n-lt1.true
      | then-n-lt1-via-else-n-lt1+then-n-gt-LAST_PORT w ↦ port_in_high a.rates.now _ w.if-n-gt-LAST_PORT.true
    ])

pub returns-then-rates-q-eq0 : goal.returns-then-rates-q-eq0
returns-then-rates-q-eq0 c =
    let a = c.args in
    let i = c.loop-i.i in
    let n = get_or a.routes.now (a.base + i) 0 in
    elim c.then-rates-q-eq0.branch [
      | then-rates-q-eq0-via-then-rates-q-eq0 w ↦
          outside a.rates.now a.routes.now a.base a.hops i c.loop-i-test.true
          (port_in_absent a.rates.now n c.if-n-lt1.false w.if-rates-q-eq0.true)
      | then-rates-q-eq0-via-else-rates-q-eq0+then-seen-q-ne0 w ↦
          twice a.rates.now a.routes.now a.base a.hops i c.loop-i-test.true
          (marked_again c.loop-i.seen (sublist a.routes.now a.base i) n c.loop-i.invariant.2 c.if-n-lt1.false c.if-n-gt-LAST_PORT.false w.if-seen-q-ne0.true)
    ]

pub loop-i-preserved : goal.loop-i-preserved
loop-i-preserved c =
    let a = c.args in
    let i = c.loop-i.i in
    let n = get_or a.routes.now (a.base + i) 0 in
    let r = sublist a.routes.now a.base i in
    let new : elem n r ≡ false = marked_new c.loop-i.seen r n c.loop-i.invariant.2 c.if-n-lt1.false c.if-n-gt-LAST_PORT.false c.if-seen-q-ne0.false in
    let there : port_in a.rates.now n ≡ true = port_in_there a.rates.now n (omega arith) (omega arith) c.if-rates-q-eq0.false in (
      simp length-set c.loop-i.invariant.0,
      all_to-next i (passes a.rates.now a.routes.now a.base) c.loop-i.invariant.1 (rw (there, new)),
      mark_next [] c.loop-i.seen a.routes.now a.base i (λ _. 1) 1 c.loop-i.invariant.2 c.if-n-lt1.false (omega arith) new refl,
    )

pub returns : goal.returns
returns c =
    let all : c.loop-i.i ≡ c.args.hops = omega arith in
    sym (route_test _ _ _ c.args.hops ∙ (rw all at c.loop-i.invariant.1))
