-- Where the reading refuses: a field's own refusals are at its tag, those of the whole plan come last.
use Rattle.std.specs.Prelude.{ℕ, zero, suc, ◌+◌, ◌≤◌, ◌<◌, ◌≡◌, refl, List, Bool, true, false, cond, not, ◌||◌, leb, ltb, eqb, length}
use Rattle.std.proofs.Common.{sym, ◌∙◌, arith, le-ltb, ltb-true, ltb-false}
use Rattle.std.proofs.Math.Option.{Option, some, none}
use Rattle.std.proofs.lemmas.Bool.{lt-leb}
use Rattle.plan.specs.Bytes.{head_size, tag_at, size_at, whole_at, value_at}
use Rattle.cqf.specs.Form.{Form}
use Rattle.plan.specs.Layout.{Kind, kinds}
use Rattle.plan.specs.Field.{FieldRead, field, refused, unless, field_by, size_ok, ranges_ok, value_in, kind_by, kind_read, field_in, field_at}
use Rattle.plan_reading.specs.Key.{header_key, key_of}
use Rattle.plan_reading.specs.Draft.{Draft, has_key, taken, field_repeats, added}
use Rattle.plan_reading.specs.Reading.{accepted, rejected, Mode, Step, stop, more, route_at, late, field_step, step_at, first_absent, closing, read_from}
use Rattle.plan_reading.specs.Strict.{found_before}
use Rattle.plan_reading.specs.laws.reading.Onward.{onward, read_end, stop_one, more_one}

-- a refusal by the tests 2 to 6 of the field at this offset
pub record Here (at number offset : ℕ) : Type 0 where
  pub early : number ≤ 6
  pub place : offset ≡ at

-- the tests 4 and 5 of a value, and test 3
value_refused : (v : List ℕ) (at next : ℕ) (k : Kind) {n o : ℕ} → value_in k v at next ≡ refused n o → Here at n o
unfolding value_in
value_refused v at next k {n} {o} = go (size_ok k (length v)) (ranges_ok k v)
  where
    go : (four five : Bool) → unless 4 at four (unless 5 at five (field (field_by k v) next)) ≡ refused n o → Here at n o
    go false five e = let same : ◌≡◌ {A = ℕ} 4 n = cc in record { early = omega arith; place = cc }
    go true false e = let same : ◌≡◌ {A = ℕ} 5 n = cc in record { early = omega arith; place = cc }
    go true true e = let z : ◌≡◌ {A = ℕ} 0 1 = cc in absurd (omega arith)

tag_refused : (form : Form) (v : List ℕ) (at next tag : ℕ) {n o : ℕ} → field_in form tag v at next ≡ refused n o → Here at n o
unfolding field_in
tag_refused form v at next tag {n} {o} = go (kind_by (kinds form) tag)
  where
    go : (found : Option Kind) → kind_read found v at next ≡ refused n o → Here at n o
    go none e = let same : ◌≡◌ {A = ℕ} 3 n = cc in record { early = omega arith; place = cc }
    go (some k) e = value_refused v at next k e

-- a field that tests 2 to 5 refuse is refused at its tag
pub refused_here : (form : Form) (s : List ℕ) (at k o : ℕ) → field_at form s at ≡ refused k o → Here at k o
unfolding field_at
refused_here form s at k o = go (whole_at s at)
  where
    go
        : (whole : Bool)
        → unless 2 at whole (field_in form (tag_at s at) (value_at s at) at (at + head_size + size_at s at)) ≡ refused k o
        → Here at k o
    go true e = tag_refused form (value_at s at) at _ (tag_at s at) e
    go false e = let same : ◌≡◌ {A = ℕ} 2 k = cc in record { early = omega arith; place = cc }

-- a step that ends the reading does so at the field's tag
pub stop_here : (form : Form) (mode : Mode) (s : List ℕ) (at last : ℕ) (d : Draft) (k o : ℕ) → step_at form mode s at last d ≡ stop k o → o ≡ at
unfolding step_at
stop_here form mode s at last d k o e = go (field_at form s at) refl e
  where
    by_tests
        : (six twelve seven : Bool) (n key : ℕ) (d' : Draft)
        → cond six (stop 6 at) (cond twelve (stop 12 at) (cond seven (stop 7 at) (more n key d'))) ≡ stop k o
        → o ≡ at
    by_tests true b c n key d' e = cc
    by_tests false true c n key d' e = cc
    by_tests false false true n key d' e = cc
    by_tests false false false n key d' e = cc

    go : (r : FieldRead) → field_at form s at ≡ r → field_step mode s at last d r ≡ stop k o → o ≡ at
    go (refused number offset) q e =
        let same : offset ≡ o = cc in
        sym same ∙ (refused_here form s at number offset q).place
    go (field x next) q e =
        by_tests (taken d x) (late mode last x) (field_repeats (route_at x.kind s at)) next (key_of x) (added d x (route_at x.kind s at)) e

-- the tests 8 and 9 come when all fields are read
pub closed_last : (s : List ℕ) (d : Draft) (at : ℕ) → found_before s at (closing s d) ≡ leb (length s) at
unfolding closing
closed_last s d at = go (not (has_key d header_key) || eqb d.flows 0) (ltb absent (length s))
  where
    absent : ℕ
    absent = first_absent d.tables.rates d.tables.periods s

    go
        : (eight nine : Bool)
        → found_before s at (cond eight (rejected 8 (length s)) (cond nine (rejected 9 absent) (accepted d.tables d.ports d.flows)))
        ≡ leb (length s) at
    go true nine = refl
    go false true = refl
    go false false = refl

-- what is found from an offset on is found after all that stands before it
refused_after : (s : List ℕ) (here k o : ℕ) → here < o → here < length s → found_before s here (rejected k o) ≡ false
refused_after s here k o less inside = go (leb k 6) (eqb k 7)
  where
    go : (a b : Bool) → cond a (leb o here) (cond b (ltb o here) (leb (length s) here)) ≡ false
    go true b = lt-leb o here less
    go false true = le-ltb o here (omega arith)
    go false false = lt-leb (length s) here inside

pub found_after
    : (form : Form) (mode : Mode) (n : ℕ) (s : List ℕ) (at last : ℕ) (d : Draft) (here : ℕ)
    → here < at
    → here < length s
    → found_before s here (read_from form mode n s at last d) ≡ false
unfolding read_from
found_after form mode zero s at last d here less inside = closed_last s d here ∙ lt-leb (length s) here inside
found_after form mode (suc n) s at last d here less inside = by_end (λ next key d'. found_after form mode n s next key d' here) (ltb at (length s)) refl
  where
    Rest : Type 0
    Rest = (next key : ℕ) (d' : Draft) → here < next → here < length s → found_before s here (read_from form mode n s next key d') ≡ false

    by_step : Rest → at < length s → (r : Step) → step_at form mode s at last d ≡ r → found_before s here (read_from form mode (suc n) s at last d) ≡ false
    by_step rest l (stop k o) e =
        rw (stop_one form mode s at last d n k o l e) (refused_after s here k o (omega (arith, stop_here form mode s at last d k o e)) inside)
    by_step rest l (more next key d') e =
        rw (more_one form mode s at last d n next key d' l e)
        (rest next key d' (omega (arith, (onward form mode s at last d next key d' e).forward)) inside)

    by_end : Rest → (b : Bool) → ltb at (length s) ≡ b → found_before s here (read_from form mode (suc n) s at last d) ≡ false
    by_end rest true e = by_step rest (ltb-true _ _ e) (step_at form mode s at last d) refl
    by_end rest false e =
        rw (read_end form mode s at last d (suc n) (ltb-false _ _ e)) (closed_last s d here ∙ lt-leb (length s) here inside)
