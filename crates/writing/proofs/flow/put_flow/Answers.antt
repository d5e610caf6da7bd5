-- `put_flow` meets its contract: head and numbers, and the route behind them.
use mathlib.Core.Path.{refl, sym, ap, ◌∙◌}
use mathlib.Core.List.{List, [], ◌∷◌, ◌++◌}
use Prim.Native.Nat.{ℕ, ◌+◌, ◌*◌}
use native.Mathlib.Omega.{arith}
use lib.ListN.{length}
use Rattle.plan.specs.Layout.{Kind, layout, numbers_size}
use Rattle.plan_reading.specs.FieldBytes.{bytes2s, value_of, bytes_of}
use Rattle.plan_reading.specs.laws.fields.Decoded.{ports_length}
use Rattle.writing.specs.Laid.{over, laid}
use Rattle.writing.specs.Fields.{head_bytes, flow_numbers, allowed_bytes}
use Rattle.writing.specs.laws.Laid.{laid-over, laid_short, laid_none, lay_next}
use Rattle.writing.specs.laws.Fields.{route_long, route_named, flow_length}
use Rattle.writing.proofs.flow.put_flow.Goals as goal

pub returns-then-hops-gt-MOST_HOPS : goal.returns-then-hops-gt-MOST_HOPS
returns-then-hops-gt-MOST_HOPS c =
    let a = c.args in
    let e = a.out.now in
    let ns = a.number ∷ a.period ∷ a.count ∷ a.bytes ∷ [] in
    sym (ap (λ (bs : List ℕ). laid bs e) (route_long Kind.flow ns a.route.now (omega arith)) ∙ laid_none e)

pub returns-then-out-size : goal.returns-then-out-size
returns-then-out-size c =
    let a = c.args in
    let r = a.route.now in
    let ns = a.number ∷ a.period ∷ a.count ∷ a.bytes ∷ [] in
    sym (laid_short (allowed_bytes Kind.flow ns r) a.out.now (omega (arith, flow_length a.number a.period a.count a.bytes r (omega arith))))

pub returns : goal.returns
unfolding bytes_of value_of
returns c =
    let last = c.before.before in
    let first = last.before.before.before.before in
    let a = first.args in
    let r = a.route.now in
    let e = a.out.now in
    let ns = a.number ∷ a.period ∷ a.count ∷ a.bytes ∷ [] in
    let begun = head_bytes (layout Kind.flow).tag (numbers_size Kind.flow + 2 * length r) ++ flow_numbers a.number a.period a.count a.bytes in
    let there = first.begin_flow.ensures ∙ laid-over begun e (omega arith) in
    lay_next begun (bytes2s r) e 13 refl there (omega (arith, ports_length r)) last.put_route.ensures
    ∙ ap (λ (bs : List ℕ). over bs e) (sym (route_named Kind.flow ns r (omega arith)))
    ∙ sym (laid-over (allowed_bytes Kind.flow ns r) e (omega (arith, flow_length a.number a.period a.count a.bytes r (omega arith))))
