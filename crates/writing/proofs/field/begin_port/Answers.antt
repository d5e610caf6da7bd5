-- `begin_port` meets its contract: the head, and each number behind what is there.
use mathlib.Core.Path.{refl, sym, ◌∙◌}
use mathlib.Core.List.{◌++◌}
use native.Mathlib.Omega.{arith}
use Rattle.plan_reading.specs.FieldBytes.{bytes2, bytes4}
use Rattle.writing.specs.Fields.{head_bytes, port_numbers}
use Rattle.writing.specs.laws.Laid.{laid-over, laid_short, lay_next}
use Rattle.writing.proofs.field.begin_port.Goals as goal

pub returns-then-out : goal.returns-then-out
returns-then-out c =
    let a = c.args in
    sym (laid_short (head_bytes a.tag a.size ++ port_numbers a.number a.rate a.blocking) a.out.now (omega arith))

pub returns : goal.returns
returns c =
    let third = c.before.before in
    let second = third.before.before.before.before in
    let first = second.before.before.before.before in
    let head = first.before.before.before.before in
    let a = head.args in
    let entry = a.out.now in
    let h = head_bytes a.tag a.size in
    let there = head.put_head.ensures ∙ laid-over h entry (omega arith) in
    let after_first = lay_next h (bytes2 a.number) entry 3 refl there (omega arith) first.put2.ensures in
    let after-second = lay_next (h ++ bytes2 a.number) (bytes4 a.rate) entry 5 refl after_first (omega arith) second.put4.ensures in
    lay_next ((h ++ bytes2 a.number) ++ bytes4 a.rate) (bytes2 a.blocking) entry 9 refl after-second (omega arith) third.put2-2.ensures
    ∙ sym (laid-over (head_bytes a.tag a.size ++ port_numbers a.number a.rate a.blocking) entry (omega arith))
