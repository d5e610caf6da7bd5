-- `begin_flow` meets its contract: the head, and each number behind what is there.
use mathlib.Core.Path.{refl, sym, ◌∙◌}
use mathlib.Core.List.{◌++◌}
use native.Mathlib.Omega.{arith}
use Rattle.plan_reading.specs.FieldBytes.{bytes2, bytes4}
use Rattle.writing.specs.Fields.{head_bytes, flow_numbers}
use Rattle.writing.specs.laws.Laid.{laid-over, laid_short, lay_next}
use Rattle.writing.proofs.flow.begin_flow.Goals as goal

pub returns-then-out : goal.returns-then-out
returns-then-out c =
    let a = c.args in
    sym (laid_short (head_bytes a.tag a.size ++ flow_numbers a.number a.period a.count a.bytes) a.out.now (omega arith))

pub returns : goal.returns
returns c =
    let fourth = c.before.before in
    let third = fourth.before.before.before.before in
    let second = third.before.before.before.before in
    let first = second.before.before.before.before in
    let head = first.before.before.before.before in
    let a = head.args in
    let e = a.out.now in
    let h = head_bytes a.tag a.size in
    let before-count = (h ++ bytes2 a.number) ++ bytes4 a.period in
    let there = head.put_head.ensures ∙ laid-over h e (omega arith) in
    let after_first = lay_next h (bytes2 a.number) e 3 refl there (omega arith) first.put2.ensures in
    let after-second = lay_next (h ++ bytes2 a.number) (bytes4 a.period) e 5 refl after_first (omega arith) second.put4.ensures in
    let after-third = lay_next before-count (bytes2 a.count) e 9 refl after-second (omega arith) third.put2-2.ensures in
    lay_next (before-count ++ bytes2 a.count) (bytes2 a.bytes) e 11 refl after-third (omega arith) fourth.put2-3.ensures
    ∙ sym (laid-over (h ++ flow_numbers a.number a.period a.count a.bytes) e (omega arith))
