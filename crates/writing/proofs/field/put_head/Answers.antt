-- `put_head` meets its contract: the tag, and the length behind it.
use mathlib.Core.Path.{refl, sym, ◌∙◌}
use native.Mathlib.Omega.{arith}
use Rattle.plan_reading.specs.FieldBytes.{bytes2}
use Rattle.writing.specs.Laid.{bytes1}
use Rattle.writing.specs.Fields.{head_bytes}
use Rattle.writing.specs.laws.Laid.{laid-over, laid_short, lay_next}
use Rattle.writing.proofs.field.put_head.Goals as goal

pub returns-then-out-lt-HEAD_SIZE : goal.returns-then-out-lt-HEAD_SIZE
returns-then-out-lt-HEAD_SIZE c =
    let a = c.args in
    sym (laid_short (head_bytes a.tag a.size) a.out.now (omega arith))

pub returns : goal.returns
returns c =
    let first = c.before.before in
    let head = first.before.before.before.before in
    let a = head.args in
    let entry = a.out.now in
    let h = bytes1 a.tag in
    let there = head.put1.ensures ∙ laid-over h entry (omega arith) in
    lay_next h (bytes2 a.size) entry 1 refl there (omega arith) first.put2.ensures
    ∙ sym (laid-over (head_bytes a.tag a.size) entry (omega arith))
