-- `put_gate` meets its contract: the head, and each number behind what is there.
use mathlib.Core.Path.{refl, sym, ◌∙◌}
use mathlib.Core.List.{◌++◌}
use native.Mathlib.Omega.{arith}
use Rattle.gate_lists.specs.GateList.{gate_tag, gate_size}
use Rattle.plan_reading.specs.FieldBytes.{bytes4}
use Rattle.writing.specs.Laid.{bytes1}
use Rattle.writing.specs.Fields.{head_bytes}
use Rattle.writing.specs.laws.Laid.{laid-over, laid_short, lay_next}
use Rattle.gate_writing.specs.List.{gate_of}
use Rattle.gate_writing.proofs.gate.put_gate.Goals as goal

pub returns-then-out-lt-FIELD_SIZE : goal.returns-then-out-lt-FIELD_SIZE
returns-then-out-lt-FIELD_SIZE c =
    let a = c.args in
    sym (laid_short (gate_of a.states a.interval) a.out.now (omega arith))

pub returns : goal.returns
returns c =
    let second = c.before.before in
    let first = second.before.before.before.before in
    let head = first.before.before.before.before in
    let a = head.args in
    let entry = a.out.now in
    let h = head_bytes gate_tag gate_size in
    let there = head.put_head.ensures ∙ laid-over h entry (omega arith) in
    let after_first = lay_next h (bytes1 a.states) entry 3 refl there (omega arith) first.put1.ensures in
    lay_next (h ++ bytes1 a.states) (bytes4 a.interval) entry 4 refl after_first (omega arith) second.put4.ensures
    ∙ sym (laid-over (gate_of a.states a.interval) entry (omega arith))
