-- `put_clock_numbers` meets its contract: each number behind what is there.
use mathlib.Core.Path.{refl, sym, ◌∙◌}
use mathlib.Core.List.{◌++◌}
use native.Mathlib.Omega.{arith}
use Rattle.numbers.specs.Clock.{clock_of}
use Rattle.plan_reading.specs.FieldBytes.{bytes4}
use Rattle.writing.specs.Fields.{clock_numbers}
use Rattle.writing.specs.laws.Laid.{laid-over, laid_short, lay_next}
use Rattle.writing.proofs.field.put_clock_numbers.Goals as goal

pub returns-then-out-lt-CLOCK_SIZE : goal.returns-then-out-lt-CLOCK_SIZE
returns-then-out-lt-CLOCK_SIZE c =
    let a = c.args in
    sym (laid_short (clock_numbers (clock_of a.numbers)) a.out.now (omega arith))

pub returns : goal.returns
returns c =
    let third = c.before.before in
    let second = third.before.before.before.before in
    let first = second.before.before.before.before in
    let a = first.args in
    let entry = a.out.now in
    let drift = bytes4 a.numbers.drift in
    let there = first.put4.ensures ∙ laid-over drift entry (omega arith) in
    let after-second = lay_next drift (bytes4 a.numbers.timing_jitter) entry 4 refl there (omega arith) second.put4-2.ensures in
    lay_next (drift ++ bytes4 a.numbers.timing_jitter) (bytes4 a.numbers.sync_error) entry 8 refl after-second (omega arith) third.put4-3.ensures
    ∙ sym (laid-over (clock_numbers (clock_of a.numbers)) entry (omega arith))
