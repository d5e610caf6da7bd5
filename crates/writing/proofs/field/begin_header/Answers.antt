-- `begin_header` meets its contract: the head, and each number behind what is there.
use mathlib.Core.Path.{refl, sym, ◌∙◌}
use mathlib.Core.List.{◌++◌}
use native.Mathlib.Omega.{arith}
use Rattle.plan_reading.specs.FieldBytes.{bytes4}
use Rattle.writing.specs.Fields.{head_bytes, header_numbers}
use Rattle.writing.specs.laws.Laid.{laid-over, laid_short, lay_next}
use Rattle.writing.proofs.field.begin_header.Goals as goal

pub returns-then-out : goal.returns-then-out
returns-then-out c =
    let a = c.args in
    sym (laid_short (head_bytes a.tag a.size ++ header_numbers a.guard a.top) a.out.now (omega arith))

pub returns : goal.returns
returns c =
    let second = c.before.before in
    let first = second.before.before.before.before in
    let head = first.before.before.before.before in
    let a = head.args in
    let entry = a.out.now in
    let h = head_bytes a.tag a.size in
    let there = head.put_head.ensures ∙ laid-over h entry (omega arith) in
    let after_first = lay_next h (bytes4 a.guard) entry 3 refl there (omega arith) first.put4.ensures in
    lay_next (h ++ bytes4 a.guard) (bytes4 a.top) entry 7 refl after_first (omega arith) second.put4-2.ensures
    ∙ sym (laid-over (head_bytes a.tag a.size ++ header_numbers a.guard a.top) entry (omega arith))
