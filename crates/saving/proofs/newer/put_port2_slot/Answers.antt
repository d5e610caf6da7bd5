-- `put_port2_slot` meets its contract, by whether the slot has the field.
use mathlib.Core.Path.{ap, ◌∙◌}
use Prim.Native.Nat.{ℕ}
use native.Mathlib.Numerals.{add-one}
use native.Mathlib.Omega.{arith}
use Rattle.cqf.specs.Plan.{rate_of, blocking_of, extra_of}
use Rattle.writing.specs.Fields.{port2_bytes}
use Rattle.tables.specs.Lent.{plan_lent}
use Rattle.writing.specs.Laid.{laid}
use Rattle.saving.specs.declared.kind.Kind.{Kind}
use Rattle.saving.specs.Slots.{field_in}
use Rattle.saving.specs.laws.Slots.{slot_none, slot_one}
use Rattle.saving.proofs.newer.put_port2_slot.Goals as goal

pub returns-then-rate-eq0 : goal.returns-then-rate-eq0
returns-then-rate-eq0 c =
    let a = c.args in
    let p = plan_lent a.held.lent in
    slot_none (field_in Kind.Port2 p a.slot) a.out.now (rate_of p a.slot) (omega arith)

pub returns : goal.returns
returns c =
    let a = c.args in
    let p = plan_lent a.held.lent in
    let q = a.slot in
    slot_one (field_in Kind.Port2 p q) a.out.now (rate_of p q) c.if-rate-eq0.false
    ((rw c.from-extra.ensures at c.put_port2.ensures) ∙ ap (λ (n : ℕ). laid (port2_bytes n (rate_of p q) (blocking_of p q) (extra_of p q)) a.out.now) (add-one q))
