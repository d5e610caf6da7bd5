-- Fields whose keys rise: test 12 finds none of them, the fields of a plan that the strict reading accepts are such, and two such
-- rows with the same fields are one row.
use Rattle.std.specs.Prelude.{ℕ, zero, suc, ◌≤◌, ◌<◌, ◌≡◌, refl, ◌⊎◌, Bool, true, false, ltb, length}
use Rattle.std.proofs.Common.{sym, ap, ap₂, ◌∙◌, inl, inr, arith, le-ltb, ltb-true, ltb-false}
use mathlib.Core.List.Memᴰ
use mathlib.Core.List.{List, ◌∷◌, Memᴰ, Permᴰ}
use Rattle.cqf.specs.Plan.{Plan}
use Rattle.cqf.specs.Form.{Form}
use Rattle.plan.specs.Field.{Field, FieldRead, field, refused, field_at}
use Rattle.plan_reading.specs.Key.{key_of}
use Rattle.plan_reading.specs.Ranges.{NumbersOk}
use Rattle.plan_reading.specs.Draft.{Draft, taken, added}
use Rattle.plan_reading.specs.Reading.{accepted, rejected, strict, Step, stop, more, route_at, step_at, read_from}
use Rattle.plan_reading.specs.Strict.{Entry, entry_of, fields_from, late_from}
use Rattle.plan_reading.specs.laws.fields.Found.{found-numbers}
use Rattle.plan_reading.specs.laws.stores.Commute.{fresh_apart}
use Rattle.plan_reading.specs.laws.stores.Stored.{Flagged, added_flagged}
use Rattle.plan_reading.specs.laws.reading.Steps.{step_more}
use Rattle.plan_reading.specs.laws.reading.Onward.{stop_one, more_one}
use Rattle.plan_reading.specs.laws.order.Late.{Known, known_next, past_end, late_refused, late-past}
use Rattle.plan_reading.specs.laws.order.Rows.{row_refused, row_field, Ascends, none, next}

-- none of them should have stood earlier
pub none-late
    : (form : Form) (n : ℕ) (front : List Field) (s : List ℕ) (at last least : ℕ)
    → Known form front last
    → last ≤ least
    → Ascends form least (fields_from form n s at)
    → late_from form n front s at ≡ length s
unfolding late_from
none-late form zero front s at last least known low up = refl
none-late form (suc n) front s at last least known low up =
    go (λ x after known up. none-late form n (x ∷ front) s after (key_of x) (suc (key_of x)) known (omega arith) up) (field_at form s at) refl
  where
    Rest : Type 0
    Rest =
        (x : Field) (after : ℕ)
        → Known form (x ∷ front) (key_of x)
        → Ascends form (suc (key_of x)) (fields_from form n s after)
        → late_from form n (x ∷ front) s after ≡ length s

    first : Rest → (x : Field) (after : ℕ) → field_at form s at ≡ field x after → Ascends form least (entry_of x (route_at x.kind s at) ∷ fields_from form n s after)
        → late_from form (suc n) front s at ≡ length s
    first rest x after e (next k from up) =
        let in_time : ltb (key_of x) last ≡ false = le-ltb (key_of x) last (omega arith) in
        late-past form n front s at x after e (known x k ∙ in_time) ∙ rest x after (known_next front last x k known in_time) up

    go : Rest → (r : FieldRead) → field_at form s at ≡ r → late_from form (suc n) front s at ≡ length s
    go rest (refused k o) e = late_refused form n front s at k o e
    go rest (field x after) e = first rest x after e (rw (row_field form n s at x after e) at up)

-- a field that is neither seen before nor late has a key from this one on
abbrev Floor : Draft → (last least : ℕ) → Type 0
Floor d last least = (x : Field) → taken d x ≡ false → ltb (key_of x) last ≡ false → least ≤ key_of x

floor_next : {form : Form} (d : Draft) (x : Field) (r : List ℕ) → Flagged d → NumbersOk form x → Floor (added d x r) (key_of x) (suc (key_of x))
floor_next d x r flagged k y fresh in_time =
    omega (arith, fresh_apart d x y r flagged k fresh, ltb-false (key_of y) (key_of x) in_time)

-- the fields that the strict reading accepts
pub strict_ascends
    : (form : Form) (n : ℕ) (s : List ℕ) (at last : ℕ) (d : Draft) (least : ℕ) (p : Plan) (ports flows : ℕ)
    → Flagged d
    → Floor d last least
    → read_from form strict n s at last d ≡ accepted p ports flows
    → Ascends form least (fields_from form n s at)
unfolding fields_from
strict_ascends form zero s at last d least p m k flagged floor e = none
strict_ascends form (suc n) s at last d least p m k flagged floor e =
    by_end (λ after key d' least. strict_ascends form n s after key d' least p m k) (ltb at (length s)) refl
  where
    Rest : Type 0
    Rest =
        (after key : ℕ) (d' : Draft) (least : ℕ)
        → Flagged d'
        → Floor d' key least
        → read_from form strict n s after key d' ≡ accepted p m k
        → Ascends form least (fields_from form n s after)

    by_step : Rest → at < length s → (r : Step) → step_at form strict s at last d ≡ r → Ascends form least (fields_from form (suc n) s at)
    by_step rest inside (stop number offset) q =
        let y : rejected number offset ≡ accepted p m k = sym (stop_one form strict s at last d n number offset inside q) ∙ e in
        let z : ◌≡◌ {A = ℕ} 0 1 = cc in
        absurd (omega arith)
    by_step rest inside (more after key d') q =
        let t = step_more form strict s at last d after key d' q in
        let x = t.part in
        let ok = found-numbers form s at x after t.stands in
        let floors = floor_next d x (route_at x.kind s at) flagged ok in
        let flags = added_flagged d x (route_at x.kind s at) flagged in
        let reads = sym (more_one form strict s at last d n after key d' inside q) ∙ e in
        rw (row_field form n s at x after t.stands)
        (next ok (floor x t.fresh t.in_time)
        (rest after (key_of x) (added d x (route_at x.kind s at)) (suc (key_of x)) flags floors (rw (t.keyed, t.adds) reads)))

    by_end : Rest → (b : Bool) → ltb at (length s) ≡ b → Ascends form least (fields_from form (suc n) s at)
    by_end rest true q = by_step rest (ltb-true at (length s) q) (step_at form strict s at last d) refl
    by_end rest false q = rw (row_refused form (suc n) s at 2 at (past_end form s at (ltb-false at (length s) q))) none

-- a field of such a row has a key from the row's first on
ascends_from : {form : Form} {least : ℕ} {es : List Entry} {f : Entry} → Ascends form least es → Memᴰ f es → least ≤ key_of f.field
ascends_from none m = absurd (Memᴰ.not-nil m)
ascends_from {least} {f = f} (next {e = e} {es = es} k low up) m = go (ascends_from up) (Memᴰ.cases_cons m)
  where
    go : (Memᴰ f es → suc (key_of e.field) ≤ key_of f.field) → (f ≡ e) ⊎ Memᴰ f es → least ≤ key_of f.field
    go rest (inl same) = rw same low
    go rest (inr m) = omega (arith, rest m)

-- and no other has its key
pub ascends_once
    : {form : Form} {least : ℕ} {es : List Entry} {e f : Entry}
    → Ascends form least es
    → Memᴰ e es
    → Memᴰ f es
    → key_of e.field ≡ key_of f.field
    → e ≡ f
ascends_once none m n same = absurd (Memᴰ.not-nil m)
ascends_once (next k low up) (Memᴰ.head p) (Memᴰ.head q) same = p ∙ sym q
ascends_once (next k low up) (Memᴰ.head p) (Memᴰ.tail n) same =
    absurd (omega (arith, ascends_from up n, ap (λ (g : Entry). key_of g.field) p))
ascends_once (next k low up) (Memᴰ.tail m) (Memᴰ.head q) same =
    absurd (omega (arith, ascends_from up m, ap (λ (g : Entry). key_of g.field) q))
ascends_once (next k low up) (Memᴰ.tail m) (Memᴰ.tail n) same = ascends_once up m n same

-- two of them that hold the same fields are equal
abbrev Holds : List Entry → List Entry → Type 0
Holds es fs = (f : Entry) → Memᴰ f es → Memᴰ f fs

pub ascends_same : {form other : Form} {a b : ℕ} {es fs : List Entry} → Ascends form a es → Ascends other b fs → Holds es fs → Holds fs es → es ≡ fs
ascends_same none none to from = refl
ascends_same none (next {e = f} k low up) to from = absurd (Memᴰ.not-nil (from f (Memᴰ.head refl)))
ascends_same (next {e = e} k low up) none to from = absurd (Memᴰ.not-nil (to e (Memᴰ.head refl)))
ascends_same (next {e = e} {es = es} k low up) (next {e = f} {es = fs} m base rise) to from =
    let same = first (Memᴰ.cases_cons (to e (Memᴰ.head refl))) (Memᴰ.cases_cons (from f (Memᴰ.head refl))) in
    ap₂ ◌∷◌ same (ascends_same up rise (λ g i. tail_to same g i (Memᴰ.cases_cons (to g (Memᴰ.tail i)))) (λ g i. tail_from same g i (Memᴰ.cases_cons (from g (Memᴰ.tail i)))))
  where
    first : (e ≡ f) ⊎ Memᴰ e fs → (f ≡ e) ⊎ Memᴰ f es → e ≡ f
    first (inl p) q = p
    first (inr i) (inl q) = sym q
    first (inr i) (inr j) = absurd (omega (arith, ascends_from rise i, ascends_from up j))

    tail_to : e ≡ f → (g : Entry) → Memᴰ g es → (g ≡ f) ⊎ Memᴰ g fs → Memᴰ g fs
    tail_to same g i (inr j) = j
    tail_to same g i (inl q) =
        let z : key_of g.field ≡ key_of e.field = ap (λ (h : Entry). key_of h.field) (q ∙ sym same) in
        absurd (omega (arith, ascends_from up i))

    tail_from : e ≡ f → (g : Entry) → Memᴰ g fs → (g ≡ e) ⊎ Memᴰ g es → Memᴰ g es
    tail_from same g i (inr j) = j
    tail_from same g i (inl q) =
        let z : key_of g.field ≡ key_of f.field = ap (λ (h : Entry). key_of h.field) (q ∙ same) in
        absurd (omega (arith, ascends_from rise i))

-- a permutation holds the same
pub permuted_holds : {es fs : List Entry} → Permᴰ es fs → Holds es fs
permuted_holds Permᴰ.nil g i = i
permuted_holds (Permᴰ.cons same perm) g (Memᴰ.head p) = Memᴰ.head (p ∙ same)
permuted_holds (Permᴰ.cons same perm) g (Memᴰ.tail i) = Memᴰ.tail (permuted_holds perm g i)
permuted_holds (Permᴰ.swap p q) g (Memᴰ.head i) = Memᴰ.tail (Memᴰ.head (i ∙ p))
permuted_holds (Permᴰ.swap p q) g (Memᴰ.tail (Memᴰ.head i)) = Memᴰ.head (i ∙ q)
permuted_holds (Permᴰ.swap p q) g (Memᴰ.tail (Memᴰ.tail i)) = Memᴰ.tail (Memᴰ.tail i)
permuted_holds (Permᴰ.trans p q) g i = permuted_holds q g (permuted_holds p g i)
