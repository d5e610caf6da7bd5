-- `put_port2` meets its contract: what the older port has, and the extra bytes behind it.
use mathlib.Core.Path.{refl, sym, ◌∙◌}
use mathlib.Core.List.{◌++◌}
use native.Mathlib.Omega.{arith}
use Rattle.plan.specs.Layout.{Kind, layout, numbers_size}
use Rattle.plan_reading.specs.FieldBytes.{bytes2, value_of, bytes_of}
use Rattle.writing.specs.Fields.{head_bytes, port_numbers, port2_bytes}
use Rattle.writing.specs.laws.Laid.{laid-over, laid_short, lay_next}
use Rattle.writing.proofs.newer.put_port2.Goals as goal

pub returns-then-out : goal.returns-then-out
unfolding bytes_of value_of
returns-then-out c =
    let a = c.args in
    sym (laid_short (port2_bytes a.number a.rate a.blocking a.extra) a.out.now (omega arith))

pub returns : goal.returns
unfolding bytes_of value_of
returns c =
    let last = c.before.before in
    let first = last.before.before.before.before in
    let a = first.args in
    let entry = a.out.now in
    let begun = head_bytes (layout Kind.port2).tag (numbers_size Kind.port2) ++ port_numbers a.number a.rate a.blocking in
    let there = first.begin_port.ensures ∙ laid-over begun entry (omega arith) in
    lay_next begun (bytes2 a.extra) entry 11 refl there (omega arith) last.put2.ensures
    ∙ sym (laid-over (port2_bytes a.number a.rate a.blocking a.extra) entry (omega arith))
