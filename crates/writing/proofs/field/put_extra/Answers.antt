-- `put_extra` meets its contract: the head, and each number behind what is there.
use mathlib.Core.Path.{refl, sym, ◌∙◌}
use mathlib.Core.List.{◌++◌}
use native.Mathlib.Omega.{arith}
use Rattle.plan.specs.Layout.{Kind, layout, numbers_size}
use Rattle.plan_reading.specs.Part.{extra}
use Rattle.plan_reading.specs.FieldBytes.{bytes2, value_of, bytes_of}
use Rattle.writing.specs.Fields.{head_bytes, field_bytes}
use Rattle.writing.specs.laws.Laid.{laid-over, laid_short, lay_next}
use Rattle.writing.proofs.field.put_extra.Goals as goal

pub returns-then-out : goal.returns-then-out
unfolding bytes_of value_of
returns-then-out c =
    let a = c.args in
    sym (laid_short (field_bytes (extra a.number a.bytes)) a.out.now (omega arith))

pub returns : goal.returns
unfolding bytes_of value_of
returns c =
    let second = c.before.before in
    let first = second.before.before.before.before in
    let head = first.before.before.before.before in
    let a = head.args in
    let entry = a.out.now in
    let h = head_bytes (layout Kind.extra).tag (numbers_size Kind.extra) in
    let there = head.put_head.ensures ∙ laid-over h entry (omega arith) in
    let after_first = lay_next h (bytes2 a.number) entry 3 refl there (omega arith) first.put2.ensures in
    lay_next (h ++ bytes2 a.number) (bytes2 a.bytes) entry 5 refl after_first (omega arith) second.put2-2.ensures
    ∙ sym (laid-over (field_bytes (extra a.number a.bytes)) entry (omega arith))
