-- Laws of a plan's fields as they are read: where they stand in order their keys rise, and the strict reading finds just that.
use Rattle.std.specs.Prelude.{ℕ, zero, suc, ◌≤◌, ◌<◌, ◌≡◌, refl, List, [], ◌∷◌, true}
use Rattle.std.proofs.Common.{sym, ◌∙◌, arith, lt-ltb, ltb-true}
use Rattle.std.proofs.Math.Bool.{and-eq-true_iff}
use Rattle.cqf.specs.Form.{Form}
use Rattle.plan.specs.Field.{Field, FieldRead, field, refused, field_at}
use Rattle.plan_reading.specs.Key.{key_of}
use Rattle.plan_reading.specs.Rank.{before}
use Rattle.plan_reading.specs.Ranges.{NumbersOk}
use Rattle.plan_reading.specs.Reading.{route_at}
use Rattle.plan_reading.specs.Strict.{Entry, entry_of, fields_from, ahead, rising}
use Rattle.plan_reading.specs.laws.fields.Found.{found-numbers}
use Rattle.plan_reading.specs.laws.order.Ranks.{before_key}

-- the fields of a plan, one by one
pub row_refused : (form : Form) (n : ℕ) (s : List ℕ) (at k o : ℕ) → field_at form s at ≡ refused k o → fields_from form n s at ≡ []
unfolding fields_from
row_refused form zero s at k o e = refl
row_refused form (suc n) s at k o e = rw (e, fields_from)

pub row_field
    : (form : Form) (n : ℕ) (s : List ℕ) (at : ℕ) (x : Field) (next : ℕ)
    → field_at form s at ≡ field x next
    → fields_from form (suc n) s at ≡ entry_of x (route_at x.kind s at) ∷ fields_from form n s next
unfolding fields_from
row_field form n s at x next e = rw (e, fields_from)

-- fields in range whose keys rise from this one on
pub data Ascends (form : Form) : ℕ → List Entry → Type 0 where
  none : {least : ℕ} → Ascends form least []
  next
      : {least : ℕ} {e : Entry} {es : List Entry}
      → NumbersOk form e.field
      → least ≤ key_of e.field
      → Ascends form (suc (key_of e.field)) es
      → Ascends form least (e ∷ es)

-- each of them stands before all that follow it
ascends_ahead : {form : Form} (x : Field) {least : ℕ} {es : List Entry} → NumbersOk form x → key_of x < least → Ascends form least es → ahead x es ≡ true
unfolding ahead
ascends_ahead x k below none = refl
ascends_ahead x k below (next {e = e} m low rest) =
    rw (before_key x e.field k m, lt-ltb (key_of x) (key_of e.field) (omega arith)) (ascends_ahead x k (omega arith) rest)

pub ascends_rising : {form : Form} {least : ℕ} {es : List Entry} → Ascends form least es → rising es ≡ true
unfolding rising
ascends_rising none = refl
ascends_rising (next {e = e} m low rest) = rw (ascends_ahead e.field m (omega arith) rest) (ascends_rising rest)

-- and where each does, their keys rise
data Ranged (form : Form) : List Entry → Type 0 where
  none : Ranged form []
  next : {e : Entry} {es : List Entry} → NumbersOk form e.field → Ranged form es → Ranged form (e ∷ es)

ranged : (form : Form) (n : ℕ) (s : List ℕ) (at : ℕ) → Ranged form (fields_from form n s at)
unfolding fields_from
ranged form zero s at = none
ranged form (suc n) s at = go (ranged form n s) (field_at form s at) refl
  where
    go : ((next : ℕ) → Ranged form (fields_from form n s next)) → (r : FieldRead) → field_at form s at ≡ r → Ranged form (fields_from form (suc n) s at)
    go rest (refused k o) e = rw (row_refused form (suc n) s at k o e) none
    go rest (field x after) e = rw (row_field form n s at x after e) (next (found-numbers form s at x after e) (rest after))

abbrev From : ℕ → List Entry → Type 0
From least [] = Unit {0}
From least (e ∷ es) = least ≤ key_of e.field

rising_ascends : {form : Form} (least : ℕ) {es : List Entry} → Ranged form es → From least es → rising es ≡ true → Ascends form least es
unfolding rising ahead
rising_ascends least none from up = none
rising_ascends {form} least (next {e = e} {es = es} k rest) from up =
    let t = (and-eq-true_iff (ahead e.field es) (rising es)).0 up in
    next k from (rising_ascends (suc (key_of e.field)) rest (after es rest t.0) t.1)
  where
    after : (es : List Entry) → Ranged form es → ahead e.field es ≡ true → From (suc (key_of e.field)) es
    after [] r a = tt
    after (f ∷ fs) (next m r) a =
        let b = ((and-eq-true_iff (before e.field f.field) (ahead e.field fs)).0 a).0 in
        ltb-true (key_of e.field) (key_of f.field) (sym (before_key e.field f.field k m) ∙ b)

pub rising_from : (form : Form) (n : ℕ) (s : List ℕ) (at : ℕ) → rising (fields_from form n s at) ≡ true → Ascends form 0 (fields_from form n s at)
rising_from form n s at = rising_ascends 0 (ranged form n s at) (any (fields_from form n s at))
  where
    any : (es : List Entry) → From 0 es
    any [] = tt
    any (e ∷ es) = omega arith
