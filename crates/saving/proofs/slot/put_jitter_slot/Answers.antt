-- `put_jitter_slot` meets its contract, by whether the slot has the field.
use mathlib.Core.Path.{ap, ◌∙◌}
use Prim.Native.Nat.{ℕ}
use native.Mathlib.Numerals.{add-one}
use native.Mathlib.Omega.{arith}
use Rattle.cqf.specs.Plan.{jitter_of}
use Rattle.plan_reading.specs.Part.{jitter}
use Rattle.writing.specs.Fields.{field_bytes}
use Rattle.tables.specs.Lent.{plan_lent}
use Rattle.writing.specs.Laid.{laid}
use Rattle.saving.specs.declared.kind.Kind.{Kind}
use Rattle.saving.specs.Slots.{field_in}
use Rattle.saving.specs.laws.Slots.{slot_none, slot_one}
use Rattle.saving.proofs.slot.put_jitter_slot.Goals as goal

pub returns-then-ns-eq0 : goal.returns-then-ns-eq0
returns-then-ns-eq0 c =
    let a = c.args in
    let p = plan_lent a.held.lent in
    slot_none (field_in Kind.Jitter p a.slot) a.out.now (jitter_of p a.slot) (omega arith)

pub returns : goal.returns
returns c =
    let a = c.args in
    let p = plan_lent a.held.lent in
    let q = a.slot in
    slot_one (field_in Kind.Jitter p q) a.out.now (jitter_of p q) c.if-ns-eq0.false
    (c.put_jitter.ensures ∙ ap (λ (n : ℕ). laid (field_bytes (jitter n (jitter_of p q))) a.out.now) (add-one q))
