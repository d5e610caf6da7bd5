-- `write_header` meets its contract: the field's bytes in an array of their own, written as they are read.
use mathlib.Core.Path.{refl, ◌∙◌}
use mathlib.Core.List.{[], ◌∷◌}
use Rattle.plan.specs.Layout.{Kind}
use Rattle.plan_reading.specs.FieldBytes.{value_of, bytes_of}
use Rattle.writing.specs.Fields.{routed_bytes}
use Rattle.field_writing.specs.laws.Whole.{laid_alone, alone_writes}
use Rattle.field_writing.proofs.older.write_header.Goals as goal

pub returns : goal.returns
unfolding bytes_of value_of
returns c =
    let a = c.args in
    let ns = a.guard ∷ a.top ∷ [] in
    alone_writes Kind.header ns [] a.buffer.now
    (c.put_header.ensures ∙ laid_alone (routed_bytes Kind.header ns []) _ refl)
    c.write_field.ensures
