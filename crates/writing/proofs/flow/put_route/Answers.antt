use mathlib.Core.Path.{◌≡◌, refl, sym, ap, ◌∙◌}
use mathlib.Core.List.{List}
use Prim.Native.Nat.{ℕ, ◌+◌, ◌*◌}
use native.Mathlib.Omega.{arith}
use lib.ListN.{length, get_or, take}
use lib.Seq.{take_all}
use Rattle.plan_reading.specs.FieldBytes.{bytes2, bytes2s}
use Rattle.plan_reading.specs.laws.fields.Decoded.{ports_length}
use Rattle.writing.specs.Laid.{over}
use Rattle.writing.specs.laws.Laid.{laid-over, laid_short, over_length, lay_next}
use Rattle.writing.specs.laws.Route.{front_length, route_next}
use Rattle.writing.proofs.flow.put_route.Goals as goal

pub returns-then-out-hops : goal.returns-then-out-hops
returns-then-out-hops c =
    let a = c.args in
    sym (laid_short (bytes2s a.route.now) a.out.now (omega (arith, ports_length a.route.now)))

pub loop-i-init : goal.loop-i-init
unfolding bytes2s
loop-i-init c = (refl, refl)

pub loop-i-preserved : goal.loop-i-preserved
loop-i-preserved c =
    let written = c.before.before in
    let at = written.before.before.before.before in
    let a = at.args in
    let i = at.loop-i.i in
    let r = a.route.now in
    let e = a.out.now in
    let is =
    lay_next (bytes2s (take i r)) (bytes2 (get_or r i 0)) e (2 * i) (front_length r i (omega arith)) at.loop-i.invariant.1 (omega arith) (rw written.from.ensures at written.put2.ensures)
    ∙ ap (λ (bs : List ℕ). over bs e) (sym (route_next r i (omega arith))) in
    (ap length is ∙ over_length (bytes2s (take (i + 1) r)) e (omega (arith, front_length r (i + 1) (omega arith))), is)

pub returns : goal.returns
returns c =
    let at = c.before in
    let a = at.args in
    let r = a.route.now in
    let all : take at.loop-i.i r ≡ r = take_all at.loop-i.i r (omega arith) in
    at.loop-i.invariant.1
    ∙ ap (λ (l : List ℕ). over (bytes2s l) a.out.now) all
    ∙ sym (laid-over (bytes2s r) a.out.now (omega (arith, ports_length r)))
