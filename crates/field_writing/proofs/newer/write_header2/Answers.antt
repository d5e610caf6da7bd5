-- `write_header2` meets its contract: the field's bytes in an array of their own, written as they are read.
use mathlib.Core.Path.{refl, ◌∙◌}
use mathlib.Core.List.{[], ◌∷◌}
use Rattle.plan.specs.Layout.{Kind}
use Rattle.plan_reading.specs.FieldBytes.{value_of, bytes_of}
use Rattle.writing.specs.Fields.{routed_bytes}
use Rattle.field_writing.specs.laws.Whole.{laid_alone, alone_writes}
use Rattle.field_writing.proofs.newer.write_header2.Goals as goal

pub returns : goal.returns
unfolding bytes_of value_of
returns c =
    let a = c.args in
    let ns = a.guard ∷ a.top ∷ a.drift ∷ a.timing_jitter ∷ a.sync_error ∷ [] in
    alone_writes Kind.header2 ns [] a.buffer.now
    (c.put_header2.ensures ∙ laid_alone (routed_bytes Kind.header2 ns []) _ refl)
    c.write_field.ensures
