-- `write_port2` meets its contract: the field's bytes in an array of their own, written as they are read.
use mathlib.Core.Path.{refl, ◌∙◌}
use mathlib.Core.List.{[], ◌∷◌}
use mathlib.Core.Logic.{inl}
use Rattle.plan.specs.Layout.{Kind}
use Rattle.plan_reading.specs.FieldBytes.{value_of, bytes_of}
use Rattle.writing.specs.Fields.{routed_bytes}
use Rattle.field_writing.specs.laws.Whole.{laid_alone, alone_writes}
use Rattle.field_writing.specs.laws.Narrow.{narrowed_stands, none, more, narrow_writes, blocking_short, extra_short, port_short}
use Rattle.field_writing.proofs.newer.write_port2.Goals as goal

pub returns : goal.returns
unfolding bytes_of value_of
returns c =
    let a = c.args in
    let ms = c.narrow.result ∷ a.rate ∷ c.narrow-2.result ∷ c.narrow-3.result ∷ [] in
    narrow_writes Kind.port2 (a.number ∷ a.rate ∷ a.blocking ∷ a.extra ∷ []) ms [] a.buffer.now
    (more (narrowed_stands _ port_short a.number c.narrow.ensures) (more (inl refl) (more (narrowed_stands _ blocking_short a.blocking c.narrow-2.ensures) (more (narrowed_stands _ extra_short a.extra c.narrow-3.ensures) none))))
    (alone_writes Kind.port2 ms [] a.buffer.now
    (c.put_port2.ensures ∙ laid_alone (routed_bytes Kind.port2 ms []) _ refl)
    c.write_field.ensures)
