-- What holds of the strict reading: its answer, by the loose one's; which plans it accepts; and that two plans that it accepts
-- hold the same fields exactly when their bytes are equal.
use Rattle.std.specs.Prelude.{ℕ, ◌≤◌, ◌≡◌, refl, ◌↔◌, List, [], Bool, true, false, cond, length}
use Rattle.std.proofs.Common.{sym, ap, ◌∙◌, subst, arith, le-leb}
use mathlib.Core.List.Permᴰ
use Rattle.cqf.specs.Form.{Form, older, newer}
use Rattle.cqf.specs.Plan.{Plan}
use Rattle.plan.specs.Bytes.{Octets}
use Rattle.plan.specs.Layout.{form_by}
use Rattle.plan_reading.specs.Draft.{blank}
use Rattle.plan_reading.specs.Reading.{PlanRead, accepted, rejected, Mode, loose, strict, mode_in, read_from, read_as_of, read_plan}
use Rattle.plan_reading.specs.Strict.{Accepts, fields_in, SameContent, InOrder, first_late, found_before, strictly}
use Rattle.plan_reading.specs.FieldBytes.{row_bytes}
use Rattle.plan_reading.specs.FieldOrder.{SameFields}
use Rattle.plan_reading.specs.laws.reading.Walk.{read_as}
use Rattle.plan_reading.specs.laws.order.Order.{flagged_blank}
use Rattle.plan_reading.specs.laws.reading.PlanLength.{sized, read_form_lem, read_sized}
use Rattle.plan_reading.specs.laws.order.Late.{known_none}
use Rattle.plan_reading.specs.laws.order.Strictly.{strict_reading}
use Rattle.plan_reading.specs.laws.order.Rows.{Ascends, ascends_rising, rising_from}
use Rattle.plan_reading.specs.laws.order.InOrder.{none-late, strict_ascends, ascends_same, permuted_holds}
use Rattle.plan_reading.specs.laws.rows.Written.{plan_bytes}
use Rattle.plan_reading.specs.laws.order.Content.{same_content, same_itself}

-- what comes of an answer of the loose reading
strictly_accepted
    : (s : List ℕ) (at : ℕ) (r : PlanRead) (p : Plan) (ports flows : ℕ)
    → strictly s at r ≡ accepted p ports flows
    → r ≡ accepted p ports flows
strictly_accepted s at r p m k e = go (found_before s at r) e
  where
    go : (b : Bool) → cond b r (rejected 12 at) ≡ accepted p m k → r ≡ accepted p m k
    go true e = e
    go false e = let z : ◌≡◌ {A = ℕ} 0 1 = cc in absurd (omega arith)

-- what the strict reading accepts, the loose one accepts, with the same plan and the same numbers of fields
pub read_loosely
    : (mode : Mode) (s : List ℕ) (p : Plan) (ports flows : ℕ)
    → read_as_of mode s ≡ accepted p ports flows
    → read_plan s ≡ accepted p ports flows
unfolding read_plan
read_loosely loose s p m k e = e
read_loosely strict s p m k e = strictly_accepted s (first_late s) (read_as_of loose s) p m k (sym (strict_reading s) ∙ e)

-- strict is strict in either form
strict_in : (form : Form) → mode_in form strict ≡ strict
strict_in older = refl
strict_in newer = refl

-- the keys of its fields rise
pub keys_ascend : (s : List ℕ) (p : Plan) (ports flows : ℕ) → read_as_of strict s ≡ accepted p ports flows → Ascends (form_by s) 0 (fields_in s)
unfolding fields_in
keys_ascend s p m k e =
    let sized = sized (form_by s) strict s p m k (sym (read_form_lem strict s) ∙ e) in
    strict_ascends (form_by s) (length s) s 0 0 blank 0 p m k flagged_blank (λ x fresh in_time. omega arith)
    (ap (λ (mode : Mode). read_from (form_by s) mode (length s) s 0 0 blank) (sym (strict_in (form_by s))) ∙ sym (read_sized strict s sized) ∙ e)

-- a plan in order has no field that should have stood earlier
pub in_order_late : (s : List ℕ) → InOrder s → first_late s ≡ length s
unfolding fields_in first_late
in_order_late s up = none-late (form_by s) (length s) [] s 0 0 0 known_none (omega arith) (rising_from (form_by s) (length s) s 0 up)

-- The strict reading accepts a plan exactly when the loose one does and the plan's fields stand in order: each before all that
-- follow it, by tag and number. The plan and the numbers of fields are then the same.
pub strict_accepts
    : (s : List ℕ) (p : Plan) (ports flows : ℕ)
    → (read_as_of strict s ≡ accepted p ports flows) ↔ ((read_as_of loose s ≡ accepted p ports flows) × InOrder s)
strict_accepts s p m k = (to, from)
  where
    to : read_as_of strict s ≡ accepted p m k → (read_as_of loose s ≡ accepted p m k) × InOrder s
    to e = (strictly_accepted s (first_late s) (read_as_of loose s) p m k (sym (strict_reading s) ∙ e), ascends_rising (keys_ascend s p m k e))

    from : (read_as_of loose s ≡ accepted p m k) × InOrder s → read_as_of strict s ≡ accepted p m k
    from h =
        let end : length s ≤ first_late s = omega (arith, in_order_late s h.1) in
        strict_reading s ∙ rw (h.0, le-leb (length s) (first_late s) end)

-- The strict answer, from the loose one and the first field that should have stood earlier: the loose answer where it is found
-- before that field is, and 12 at that field where it is not.
pub strict_answer : (s : List ℕ) → read_as_of strict s ≡ strictly s (first_late s) (read_as_of loose s)
strict_answer = strict_reading

-- So a plan that the loose reading refuses is refused by the strict one too.
pub strict_refuses
    : (s : List ℕ) (number offset : ℕ)
    → read_as_of loose s ≡ rejected number offset
    → read_as_of strict s ≡ cond (found_before s (first_late s) (rejected number offset)) (rejected number offset) (rejected 12 (first_late s))
strict_refuses s number offset e = strict_reading s ∙ ap (strictly s (first_late s)) e

-- the bytes of an accepted plan are those of its fields
pub accepted_bytes
    : (mode : Mode) (s : List ℕ) (p : Plan) (ports flows : ℕ)
    → Octets s
    → read_as_of mode s ≡ accepted p ports flows
    → s ≡ row_bytes (fields_in s)
unfolding fields_in
accepted_bytes mode s p m k o e = plan_bytes s o (read_as mode s p m k e).walk

-- Two plans that the strict reading accepts hold the same fields, each compared by its kind, its numbers and its route, exactly
-- when their bytes are equal.
pub strict_bytes : (s t : List ℕ) → Octets s → Octets t → Accepts strict s → Accepts strict t → SameContent s t ↔ (s ≡ t)
strict_bytes s t o u a b = (to, λ e. subst (SameContent s) e (Permᴰ.refl (fields_in s)))
  where
    row : SameContent s t → fields_in s ≡ fields_in t
    row same =
        ascends_same (keys_ascend s a.plan a.ports a.flows a.reads) (keys_ascend t b.plan b.ports b.flows b.reads)
        (permuted_holds same)
        (permuted_holds (Permᴰ.symm same))

    to : SameContent s t → s ≡ t
    to same =
        accepted_bytes strict s a.plan a.ports a.flows o a.reads
        ∙ ap row_bytes (row same)
        ∙ sym (accepted_bytes strict t b.plan b.ports b.flows u b.reads)

-- the same of two that are the same whole fields in any order, as the loose reading's statement on field order has them
pub strict_fields : (s t : List ℕ) → Octets s → Octets t → Accepts strict s → Accepts strict t → SameFields s t ↔ (s ≡ t)
strict_fields s t o u a b = (
  λ same. (strict_bytes s t o u a b).0 (same_content strict strict s t a b same),
  λ e. subst (SameFields s) e (same_itself strict s a),
)
