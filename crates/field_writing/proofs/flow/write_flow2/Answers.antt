-- `write_flow2` meets its contract: the field's bytes in the front of an array, written as they are read; 4 where the route is too long for any
-- form.
use Prim.Native.Nat.{◌+◌, ◌*◌}
use mathlib.Core.Path.{refl, ap, ◌∙◌}
use mathlib.Core.List.{[], ◌∷◌}
use mathlib.Core.Logic.{inl}
use native.Mathlib.Omega.{arith}
use lib.ListN.{length, take}
use Rattle.cqf.specs.Form.{newer}
use Rattle.plan.specs.Layout.{Kind}
use Rattle.writing.specs.Fields.{allowed_bytes}
use Rattle.writing.specs.laws.Fields.{route_named, flow2_length}
use Rattle.field_writing.specs.laws.Whole.{refused_writes, laid_front, alone_writes}
use Rattle.field_writing.specs.laws.Long.{long_refused}
use Rattle.field_writing.specs.laws.Narrow.{narrowed_stands, none, more, narrow_writes, flow_short, count_short, length_short}
use Rattle.field_writing.proofs.flow.write_flow2.Goals as goal

pub returns-then-hops-gt-MOST_HOPS : goal.returns-then-hops-gt-MOST_HOPS
returns-then-hops-gt-MOST_HOPS c = refused_writes newer _ _ 4 0 (long_refused Kind.flow2 _ c.args.route.now 23 refl refl (omega arith) (omega arith))

pub returns : goal.returns
returns c =
    let a = c.args in
    let number = c.narrow in
    let count = c.narrow-2 in
    let bytes = c.narrow-3 in
    let r = a.route.now in
    let ms = number.result ∷ a.period ∷ count.result ∷ bytes.result ∷ a.jitter ∷ [] in
    let size = 17 + 2 * length r in
    narrow_writes Kind.flow2 (a.number ∷ a.period ∷ a.count ∷ a.length ∷ a.jitter ∷ []) ms r a.buffer.now
    (more (narrowed_stands _ flow_short a.number number.ensures)
    (more (inl refl)
    (more (narrowed_stands _ count_short a.count count.ensures)
    (more (narrowed_stands _ length_short a.length bytes.ensures)
    (more (inl refl) none)))))
    (alone_writes Kind.flow2 ms r a.buffer.now
    (ap (take size) c.put_flow2.ensures
    ∙ laid_front (allowed_bytes Kind.flow2 ms r) _ size
    (omega (arith, flow2_length number.result a.period count.result bytes.result r (omega arith) a.jitter)) (omega arith)
    ∙ route_named Kind.flow2 ms r (omega arith))
    c.write_field.ensures)
