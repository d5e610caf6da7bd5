-- Refusal 12: the loose reading never answers it, and when the strict one does.
use Rattle.std.specs.Prelude.{ℕ, zero, suc, ◌≤◌, ◌<◌, ◌≡◌, refl, ◌↔◌, List, Bool, true, false, cond, not, ◌||◌, ltb, eqb, length}
use Rattle.std.proofs.Common.{sym, ap, ◌∙◌, arith, ltb-true, ltb-false}
use Rattle.cqf.specs.Bounded.{within}
use Rattle.cqf.specs.Form.{Form, older, newer}
use Rattle.plan.specs.Layout.{form_by}
use Rattle.plan.specs.Field.{FieldRead, field, refused, field_at}
use Rattle.plan_reading.specs.Key.{header_key, key_of}
use Rattle.plan_reading.specs.Draft.{Draft, blank, has_key, taken, field_repeats, added}
use Rattle.plan_reading.specs.Reading.{PlanRead, accepted, rejected, loose, strict, max_bytes, Step, stop, more, route_at, field_step, step_at, first_absent, closing, read_from, read_as_of, read_form, mode_in}
use Rattle.plan_reading.specs.Strict.{first_late, found_before}
use Rattle.plan_reading.specs.laws.reading.Onward.{read_end, stop_one, more_one}
use Rattle.plan_reading.specs.laws.reading.PlanLength.{read_form_lem, read_unsized, read_sized}
use Rattle.plan_reading.specs.laws.reading.Refusals.{refused_here}
use Rattle.plan_reading.specs.laws.order.Strictly.{strict_reading}

-- the refusals of one field, and those of the whole plan
step_number : (form : Form) (s : List ℕ) (at last : ℕ) (d : Draft) (k o : ℕ) → step_at form loose s at last d ≡ stop k o → k ≤ 9
unfolding step_at
step_number form s at last d k o e = go (field_at form s at) refl e
  where
    by_tests : (six seven : Bool) (n key : ℕ) (d' : Draft) → cond six (stop 6 at) (cond seven (stop 7 at) (more n key d')) ≡ stop k o → k ≤ 9
    by_tests true b n key d' e = let same : ◌≡◌ {A = ℕ} 6 k = cc in omega arith
    by_tests false true n key d' e = let same : ◌≡◌ {A = ℕ} 7 k = cc in omega arith
    by_tests false false n key d' e = let z : ◌≡◌ {A = ℕ} 0 1 = cc in absurd (omega arith)

    go : (r : FieldRead) → field_at form s at ≡ r → field_step loose s at last d r ≡ stop k o → k ≤ 9
    go (refused number offset) q e = let same : number ≡ k = cc in omega (arith, (refused_here form s at number offset q).early)
    go (field x next) q e = by_tests (taken d x) (field_repeats (route_at x.kind s at)) next (key_of x) (added d x (route_at x.kind s at)) e

closed_number : (s : List ℕ) (d : Draft) (k o : ℕ) → closing s d ≡ rejected k o → k ≤ 9
unfolding closing
closed_number s d k o = go (not (has_key d header_key) || eqb d.flows 0) (ltb absent (length s))
  where
    absent : ℕ
    absent = first_absent d.tables.rates d.tables.periods s

    go
        : (eight nine : Bool)
        → cond eight (rejected 8 (length s)) (cond nine (rejected 9 absent) (accepted d.tables d.ports d.flows)) ≡ rejected k o
        → k ≤ 9
    go true nine e = let same : ◌≡◌ {A = ℕ} 8 k = cc in omega arith
    go false true e = let same : ◌≡◌ {A = ℕ} 9 k = cc in omega arith
    go false false e = let z : ◌≡◌ {A = ℕ} 0 1 = cc in absurd (omega arith)

number_from : (form : Form) (n : ℕ) (s : List ℕ) (at last : ℕ) (d : Draft) (k o : ℕ) → read_from form loose n s at last d ≡ rejected k o → k ≤ 9
unfolding read_from
number_from form zero s at last d k o e = closed_number s d k o e
number_from form (suc n) s at last d k o e = by_end (λ next key d'. number_from form n s next key d' k o) (ltb at (length s)) refl
  where
    Rest : Type 0
    Rest = (next key : ℕ) (d' : Draft) → read_from form loose n s next key d' ≡ rejected k o → k ≤ 9

    by_step : Rest → at < length s → (r : Step) → step_at form loose s at last d ≡ r → k ≤ 9
    by_step rest l (stop k' o') q =
        let r : rejected k' o' ≡ rejected k o = sym (stop_one form loose s at last d n k' o' l q) ∙ e in
        let same : k' ≡ k = cc in
        omega (arith, step_number form s at last d k' o' q)
    by_step rest l (more next key d') q = rest next key d' (sym (more_one form loose s at last d n next key d' l q) ∙ e)

    by_end : Rest → (b : Bool) → ltb at (length s) ≡ b → k ≤ 9
    by_end rest true q = by_step rest (ltb-true _ _ q) (step_at form loose s at last d) refl
    by_end rest false q = closed_number s d k o (sym (read_end form loose s at last d (suc n) (ltb-false _ _ q)) ∙ e)

-- the loose reading of a plan of the older form refuses with 1 to 9
pub loose_number : (s : List ℕ) (number offset : ℕ) → form_by s ≡ older → read_as_of loose s ≡ rejected number offset → number ≤ 9
loose_number s k o told e = go (within 1 max_bytes (length s)) refl
  where
    go : (b : Bool) → within 1 max_bytes (length s) ≡ b → k ≤ 9
    go true q =
        number_from older (length s) s 0 0 blank k o
        (sym (ap (λ (f : Form). read_from f (mode_in f loose) (length s) s 0 0 blank) told) ∙ sym (read_sized loose s q) ∙ e)
    go false q =
        let r : rejected 1 0 ≡ rejected k o = sym (read_unsized loose s q) ∙ e in
        let same : ◌≡◌ {A = ℕ} 1 k = cc in
        omega arith

-- The strict reading of a plan of the older form answers 12 exactly when a field should have stood earlier and the loose reading finds
-- nothing before test 12 finds the first such field; the offset is that field's. Of the newer form both readings are one.
pub strict_late
    : (s : List ℕ) (offset : ℕ)
    → form_by s ≡ older
    → (read_as_of strict s ≡ rejected 12 offset) ↔ ((offset ≡ first_late s) × (found_before s (first_late s) (read_as_of loose s) ≡ false))
strict_late s o told = (λ e. go (found_before s at found) refl (sym (strict_reading s) ∙ e), λ h. strict_reading s ∙ rw (h.1, h.0))
  where
    at : ℕ
    at = first_late s

    found : PlanRead
    found = read_as_of loose s

    go : (b : Bool) → found_before s at found ≡ b → cond b found (rejected 12 at) ≡ rejected 12 o → (o ≡ at) × (found_before s at found ≡ false)
    go true f e = absurd (omega (arith, loose_number s 12 o told e))
    go false f e = (cc, f)

pub newer_modes : (s : List ℕ) → form_by s ≡ newer → read_as_of loose s ≡ read_as_of strict s
unfolding read_form
newer_modes s told =
    read_form_lem loose s
    ∙ ap (λ (f : Form). read_form f loose s) told
    ∙ ap (λ (f : Form). read_form f strict s) (sym told)
    ∙ sym (read_form_lem strict s)
