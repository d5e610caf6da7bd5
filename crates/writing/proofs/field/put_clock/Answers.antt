-- `put_clock` meets its contract: the head, and the numbers behind it.
use mathlib.Core.Path.{refl, sym, ◌∙◌}
use native.Mathlib.Omega.{arith}
use Rattle.numbers.specs.Clock.{clock_of}
use Rattle.plan.specs.Layout.{Kind, layout, numbers_size}
use Rattle.plan_reading.specs.Part.{clock}
use Rattle.plan_reading.specs.FieldBytes.{value_of, bytes_of}
use Rattle.writing.specs.Fields.{head_bytes, clock_numbers, field_bytes}
use Rattle.writing.specs.laws.Laid.{laid-over, laid_short, lay_next}
use Rattle.writing.proofs.field.put_clock.Goals as goal

pub returns-then-out : goal.returns-then-out
unfolding bytes_of value_of
returns-then-out c =
    let a = c.args in
    sym (laid_short (field_bytes (clock (clock_of a.numbers))) a.out.now (omega arith))

pub returns : goal.returns
unfolding bytes_of value_of
returns c =
    let numbers = c.before.before in
    let head = numbers.before.before.before.before in
    let a = head.args in
    let entry = a.out.now in
    let h = head_bytes (layout Kind.clock).tag (numbers_size Kind.clock) in
    let there = head.put_head.ensures ∙ laid-over h entry (omega arith) in
    lay_next h (clock_numbers (clock_of a.numbers)) entry 3 refl there (omega arith) numbers.put_clock_numbers.ensures
    ∙ sym (laid-over (field_bytes (clock (clock_of a.numbers))) entry (omega arith))
