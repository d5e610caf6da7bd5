-- `put_header2` meets its contract: what the older header has, and the clocks behind it.
use mathlib.Core.Path.{refl, sym, ◌∙◌}
use mathlib.Core.List.{◌++◌}
use native.Mathlib.Omega.{arith}
use Rattle.numbers.specs.Clock.{clock_of}
use Rattle.plan.specs.Layout.{Kind, layout, numbers_size}
use Rattle.plan_reading.specs.FieldBytes.{value_of, bytes_of}
use Rattle.writing.specs.Fields.{head_bytes, header_numbers, clock_numbers, header2_bytes}
use Rattle.writing.specs.laws.Laid.{laid-over, laid_short, lay_next}
use Rattle.writing.proofs.newer.put_header2.Goals as goal

pub returns-then-out : goal.returns-then-out
unfolding bytes_of value_of
returns-then-out c =
    let a = c.args in
    sym (laid_short (header2_bytes a.guard a.top (clock_of a.clock)) a.out.now (omega arith))

pub returns : goal.returns
unfolding bytes_of value_of
returns c =
    let last = c.before.before in
    let first = last.before.before.before.before in
    let a = first.args in
    let entry = a.out.now in
    let begun = head_bytes (layout Kind.header2).tag (numbers_size Kind.header2) ++ header_numbers a.guard a.top in
    let there = first.begin_header.ensures ∙ laid-over begun entry (omega arith) in
    lay_next begun (clock_numbers (clock_of a.clock)) entry 11 refl there (omega arith) last.put_clock_numbers.ensures
    ∙ sym (laid-over (header2_bytes a.guard a.top (clock_of a.clock)) entry (omega arith))
