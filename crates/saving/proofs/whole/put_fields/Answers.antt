-- `put_fields` meets its contract: there is room for the fields of each kind, and they stand behind those before them.
use Prim.Native.Nat.{ℕ, ◌+◌, ◌≤◌, ◌<◌}
use mathlib.Core.Path.{◌≡◌, refl, sym, ap, ◌∙◌}
use mathlib.Core.List.{List, ◌++◌}
use native.Mathlib.Omega.{arith}
use borrow.Rule.Slice.PartMut.{mid_len}
use lib.ListN.{length, length-append}
use Rattle.cqf.specs.Form.{Form}
use Rattle.cqf.specs.Plan.{Plan}
use Rattle.plan.specs.Answer.{form_of}
use Rattle.plan_reading.specs.Saved.{form_bytes}
use Rattle.tables.specs.Lent.{plan_lent}
use Rattle.saving.specs.declared.kind.Kind.{Kind}
use Rattle.writing.specs.Laid.{over, Puts}
use Rattle.saving.specs.Slots.{kind_bytes, kinds_in, kind_at, kinds_bytes}
use Rattle.writing.specs.laws.Laid.{over_length, puts_more}
use Rattle.saving.specs.laws.Whole.{kinds-next, kinds_room, kinds_whole, saved_kinds}
use Rattle.saving.proofs.whole.put_fields.Goals as goal

-- there is room for the fields of a kind
room
    : (form : Form) (p : Plan) (k at : ℕ) (e now : List ℕ)
    → k < kinds_in form
    → length (form_bytes form p) ≤ length e
    → Puts (kinds_bytes form k p) e at now
    → at + length (kind_bytes (kind_at form k) p) ≤ length e
room form p k at e now below fits there = omega (arith, there.size, kinds_room form p k below, kinds_whole form p)

pub loop-k-init : goal.loop-k-init
unfolding kinds_bytes
loop-k-init c = (refl, record { size = refl; bytes = refl })

pub slice_bounds-put_slots-count : goal.slice_bounds-put_slots-count
slice_bounds-put_slots-count c =
    let a = c.args in
    let form = form_of a.form in
    let p = plan_lent a.held.lent in
    let k = c.loop-k.k in
    let e = a.out.now in
    let below : k < kinds_in form = omega (arith, c.kinds-k-end.ensures) in
    let space = room form p k c.loop-k.at e c.loop-k.out below c.requires c.loop-k.invariant.1 in
    omega (arith, space, c.loop-k.invariant.0)

pub slice_bounds-put_slots-start : goal.slice_bounds-put_slots-start
slice_bounds-put_slots-start c =
    let a = c.args in
    let form = form_of a.form in
    let p = plan_lent a.held.lent in
    let k = c.loop-k.k in
    let e = a.out.now in
    let below : k < kinds_in form = omega (arith, c.kinds-k-end.ensures) in
    let space = room form p k c.loop-k.at e c.loop-k.out below c.requires c.loop-k.invariant.1 in
    omega (arith, space, c.loop-k.invariant.0)

pub put_slots-at-requires : goal.put_slots-at-requires
put_slots-at-requires c =
    let a = c.args in
    let form = form_of a.form in
    let p = plan_lent a.held.lent in
    let k = c.loop-k.k in
    let e = a.out.now in
    let below : k < kinds_in form = omega (arith, c.kinds-k-end.ensures) in
    let space = room form p k c.loop-k.at e c.loop-k.out below c.requires c.loop-k.invariant.1 in
    let here : kind_bytes c.kind_at.result p ≡ kind_bytes (kind_at form k) p = ap (λ (kind : Kind). kind_bytes kind p) c.kind_at.ensures in
    let out = c.loop-k.out in
    omega (arith, space, ap length here, c.loop-k.invariant.0, mid_len c.loop-k.at (length out) out (omega arith))

pub overflow_add-at : goal.overflow_add-at
overflow_add-at c =
    let a = c.args in
    let form = form_of a.form in
    let p = plan_lent a.held.lent in
    let k = c.loop-k.k in
    let e = a.out.now in
    let below : k < kinds_in form = omega (arith, c.kinds-k-end.ensures) in
    let space = room form p k c.loop-k.at e c.loop-k.out below c.requires c.loop-k.invariant.1 in
    let here : kind_bytes c.kind_at.result p ≡ kind_bytes (kind_at form k) p = ap (λ (kind : Kind). kind_bytes kind p) c.kind_at.ensures in
    omega (arith, space, c.put_slots-at.ensures.size, ap length here)

pub loop-k-preserved : goal.loop-k-preserved
loop-k-preserved c =
    let a = c.args in
    let form = form_of a.form in
    let p = plan_lent a.held.lent in
    let k = c.loop-k.k in
    let e = a.out.now in
    let below : k < kinds_in form = omega (arith, c.kinds-k-end.ensures) in
    let space = room form p k c.loop-k.at e c.loop-k.out below c.requires c.loop-k.invariant.1 in
    let here : kind_bytes c.kind_at.result p ≡ kind_bytes (kind_at form k) p = ap (λ (kind : Kind). kind_bytes kind p) c.kind_at.ensures in
    let done = kinds_bytes form k p in
    let next = kind_bytes (kind_at form k) p in
    let there = rw here at c.put_slots-at.ensures in
    let all = puts_more done next e c.loop-k.at c.put_slots-at.result c.loop-k.invariant.1 space there in
    (ap length all.bytes ∙ over_length (done ++ next) e (omega (arith, length-append done next, c.loop-k.invariant.1.size, space)), rw (kinds-next form p k) all)

pub returns : goal.returns
returns c =
    let a = c.args in
    let form = form_of a.form in
    let p = plan_lent a.held.lent in
    let e = a.out.now in
    let all : c.loop-k.k ≡ kinds_in form = omega (arith, c.kinds-k-end.ensures) in
    c.loop-k.invariant.1.bytes
    ∙ ap (λ (k : ℕ). over (kinds_bytes form k p) e) all
    ∙ ap (λ (bs : List ℕ). over bs e) (sym (saved_kinds form p))
