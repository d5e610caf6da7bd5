-- `write_jitter` meets its contract: the field's bytes in an array of their own, written as they are read.
use mathlib.Core.Path.{refl, ◌∙◌}
use mathlib.Core.List.{[], ◌∷◌}
use mathlib.Core.Logic.{inl}
use Rattle.plan.specs.Layout.{Kind}
use Rattle.plan_reading.specs.FieldBytes.{value_of, bytes_of}
use Rattle.writing.specs.Fields.{routed_bytes}
use Rattle.field_writing.specs.laws.Whole.{laid_alone, alone_writes}
use Rattle.field_writing.specs.laws.Narrow.{narrowed_stands, none, more, narrow_writes, flow_short}
use Rattle.field_writing.proofs.older.write_jitter.Goals as goal

pub returns : goal.returns
unfolding bytes_of value_of
returns c =
    let a = c.args in
    let ms = c.narrow.result ∷ a.jitter ∷ [] in
    narrow_writes Kind.jitter (a.number ∷ a.jitter ∷ []) ms [] a.buffer.now
    (more (narrowed_stands _ flow_short a.number c.narrow.ensures) (more (inl refl) none))
    (alone_writes Kind.jitter ms [] a.buffer.now
    (c.put_jitter.ensures ∙ laid_alone (routed_bytes Kind.jitter ms []) _ refl)
    c.write_field.ensures)
