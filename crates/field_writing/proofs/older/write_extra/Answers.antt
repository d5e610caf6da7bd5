-- `write_extra` meets its contract: the field's bytes in an array of their own, written as they are read.
use mathlib.Core.Path.{refl, ◌∙◌}
use mathlib.Core.List.{[], ◌∷◌}
use Rattle.plan.specs.Layout.{Kind}
use Rattle.plan_reading.specs.FieldBytes.{value_of, bytes_of}
use Rattle.writing.specs.Fields.{routed_bytes}
use Rattle.field_writing.specs.laws.Whole.{laid_alone, alone_writes}
use Rattle.field_writing.specs.laws.Narrow.{narrowed_stands, none, more, narrow_writes, extra_short, port_short}
use Rattle.field_writing.proofs.older.write_extra.Goals as goal

pub returns : goal.returns
unfolding bytes_of value_of
returns c =
    let a = c.args in
    let ms = c.narrow.result ∷ c.narrow-2.result ∷ [] in
    narrow_writes Kind.extra (a.number ∷ a.extra ∷ []) ms [] a.buffer.now
    (more (narrowed_stands _ port_short a.number c.narrow.ensures) (more (narrowed_stands _ extra_short a.extra c.narrow-2.ensures) none))
    (alone_writes Kind.extra ms [] a.buffer.now
    (c.put_extra.ensures ∙ laid_alone (routed_bytes Kind.extra ms []) _ refl)
    c.write_field.ensures)
