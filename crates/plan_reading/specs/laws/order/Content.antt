-- Two accepted plans that are the same whole fields in different order hold the same fields, and an accepted plan is a sequence of
-- whole fields.
use Rattle.std.specs.Prelude.{ℕ, zero, suc, ◌+◌, ◌≤◌, ◌<◌, true, ◌≡◌, refl, length, take, drop}
use Rattle.std.proofs.Common.{sym, ap, ap₂, ◌∙◌, subst, arith, length-append, length-drop, take-append-drop, drop_of_length-le, length-take-le, get_or-take, get_or-drop, drop-drop}
use mathlib.Core.List.Permᴰ
use mathlib.Core.List.{List, [], ◌∷◌, ◌++◌, flatten, append_assoc, append-nil, Permᴰ}
use Rattle.plan.specs.Bytes.{byte_at, number2, head_size, tag_at, size_at, whole_at, value_at}
use Rattle.cqf.specs.Form.{Form}
use Rattle.plan.specs.Layout.{form_by}
use Rattle.plan.specs.Field.{Field, route_in}
use Rattle.plan_reading.specs.Draft.{Draft}
use Rattle.plan_reading.specs.Reading.{Mode}
use Rattle.plan_reading.specs.FieldOrder.{IsField, AllFields, none, more, SameFields}
use Rattle.plan_reading.specs.Strict.{Accepts, Entry, entry_of, fields_from, fields_in, SameContent}
use Rattle.plan.specs.laws.Whole.{whole_fits}
use Rattle.plan_reading.specs.laws.fields.Passes.{Passes, field_is_whole, field_passes, passes_once}
use Rattle.plan_reading.specs.laws.reading.Walk.{Reads, done, one, read_as}
use Rattle.plan_reading.specs.laws.order.Order.{tag_inside, size_inside, value_inside, all_permuted}
use Rattle.plan_reading.specs.laws.order.Late.{past_end}
use Rattle.plan_reading.specs.laws.order.Rows.{row_refused, row_field}

-- the entry of a field that stands alone
abbrev entry_in : List ℕ → Field → Entry
entry_in b x = entry_of x (route_in x.kind (value_at b 0))

-- these whole fields are read so
data Row (form : Form) : List (List ℕ) → List Entry → Type 0 where
  nothing : Row form [] []
  next
      : {b : List ℕ} {bs : List (List ℕ)} {e : Entry} {es : List Entry} (x : Field)
      → Passes form (tag_at b 0) (value_at b 0) x
      → entry_in b x ≡ e
      → Row form bs es
      → Row form (b ∷ bs) (e ∷ es)

-- a walk over whole fields reads them one after the other
walk_row
    : {form : Form} (bs : List (List ℕ)) (s front : List ℕ) (n at : ℕ) (d e : Draft)
    → s ≡ front ++ flatten bs
    → at ≡ length front
    → length s ≤ at + n
    → AllFields bs
    → Reads form s at d e
    → Row form bs (fields_from form n s at)
unfolding flatten
walk_row {form} [] s front n at d e p q enough h (done same end) = rw (row_refused form n s at 2 at (past_end form s at end)) nothing
walk_row {form} [] s front n at d e p q enough h (one x after less stands fresh no_repeat rest) =
    absurd (omega (arith, ap length (p ∙ append-nil front)))
walk_row {form} (b ∷ bs) s front n at d e p q enough (more is h) (done same end) =
    absurd (omega (arith, ap length p, length-append front (b ++ flatten bs), length-append b (flatten bs), is.headed))
walk_row {form} (b ∷ bs) s front zero at d e p q enough (more is h) (one x after less stands fresh no_repeat rest) = absurd (omega arith)
walk_row {form} (b ∷ bs) s front (suc n) at d e p q enough (more is h) (one x after less stands fresh no_repeat rest) =
    let r = field_passes form s at x after stands in
    let tag : tag_at s at ≡ tag_at b 0 = rw (p, q) (tag_inside front b (flatten bs) is) in
    let size : size_at s at ≡ size_at b 0 = rw (p, q) (size_inside front b (flatten bs) is) in
    let value : value_at s at ≡ value_at b 0 = rw (p, q) (value_inside front b (flatten bs) is) in
    let ends : after ≡ length (front ++ b) = omega (arith, r.follows, length-append front b, is.whole) in
    rw (row_field form n s at x after stands)
    (next x (rw (tag, value) at r.passes) (ap (λ (v : List ℕ). entry_of x (route_in x.kind v)) (sym value))
    (walk_row bs s (front ++ b) n after _ e (p ∙ sym (append_assoc front b (flatten bs))) ends (omega (arith, r.follows)) h rest))

-- whole fields are read in one way
row_once : {form other : Form} {bs : List (List ℕ)} {es fs : List Entry} → Row form bs es → Row other bs fs → es ≡ fs
row_once nothing nothing = refl
row_once (next {b = b} x k p rest) (next y m q other) =
    let same : x ≡ y = passes_once (tag_at b 0) (value_at b 0) x y k m in
    ap₂ ◌∷◌ (sym p ∙ ap (entry_in b) same ∙ q) (row_once rest other)

-- in another order they are read in that order
record Permuted (form : Form) (cs : List (List ℕ)) (es : List Entry) : Type 0 where
  row : List Entry
  reads : Row form cs row
  permutes : Permᴰ es row

row_permuted : {form : Form} {bs cs : List (List ℕ)} {es : List Entry} → Permᴰ bs cs → Row form bs es → Permuted form cs es
row_permuted Permᴰ.nil nothing = record { row = []; reads = nothing; permutes = Permᴰ.nil }
row_permuted (Permᴰ.cons {b = c} same perm) (next {e = e} x k p rest) =
    let t = row_permuted perm rest in
    record { row = e ∷ t.row; reads = next x (rw same at k) (rw same at p) t.reads; permutes = Permᴰ.cons refl t.permutes }
row_permuted (Permᴰ.swap same alike) (next {e = e} x k p (next {e = f} {es = es} y m q rest)) =
    record {
      row = f ∷ e ∷ es;
      reads = next y (rw alike at m) (rw alike at q) (next x (rw same at k) (rw same at p) rest);
      permutes = Permᴰ.swap refl refl;
    }
row_permuted (Permᴰ.trans first second) r =
    let t = row_permuted first r in
    let u = row_permuted second t.reads in
    record { row = u.row; reads = u.reads; permutes = Permᴰ.trans t.permutes u.permutes }

-- an accepted plan of whole fields is read as they are
plan_row : (mode : Mode) (bs : List (List ℕ)) (s : List ℕ) → s ≡ flatten bs → AllFields bs → Accepts mode s → Row (form_by s) bs (fields_in s)
unfolding fields_in
plan_row mode bs s p h a =
    let w = read_as mode s a.plan a.ports a.flows a.reads in
    walk_row bs s [] (length s) 0 _ w.final p refl (omega arith) h w.walk

pub same_content : (mode other : Mode) (s t : List ℕ) → Accepts mode s → Accepts other t → SameFields s t → SameContent s t
same_content mode other s t a b same =
    let first = plan_row mode same.first s same.bytes_first same.fields a in
    let second = plan_row other same.second t same.bytes_second (all_permuted same.permuted same.fields) b in
    let u = row_permuted same.permuted first in
    subst (Permᴰ (fields_in s)) (row_once u.reads second) u.permutes

-- the bytes of a whole field of a plan are one
taken_out : (s : List ℕ) (at : ℕ) → whole_at s at ≡ true → IsField (take (head_size + size_at s at) (drop at s))
unfolding size_at number2
taken_out s at w =
    let size = head_size + size_at s at in
    let fits = whole_fits s at w in
    let long : length (take size (drop at s)) ≡ size = length-take-le size (drop at s) (omega (arith, length-drop at s)) in
    let byte : (i : ℕ) → i < head_size → byte_at (take size (drop at s)) i ≡ byte_at s (at + i) =
    λ i l. get_or-take size (drop at s) i 0 (omega arith) ∙ get_or-drop at s i 0 in
    let low : byte_at s (at + 2) ≡ byte_at s (at + 1 + 1) = ap (byte_at s) (omega arith) in
    record {
      headed = omega arith;
      whole = long ∙ rw (byte 1 (omega arith), byte 2 (omega arith), low);
    }

-- a walk is over whole fields
record Cut (s : List ℕ) (at : ℕ) : Type 0 where
  parts : List (List ℕ)
  fields : AllFields parts
  bytes : drop at s ≡ flatten parts

walk_cut : {form : Form} (s : List ℕ) {at : ℕ} {d e : Draft} → Reads form s at d e → Cut s at
unfolding flatten
walk_cut s (done same end) = record { parts = []; fields = none; bytes = drop_of_length-le s end }
walk_cut {form} s {at} (one x after less stands fresh no_repeat rest) =
    let r = field_passes form s at x after stands in
    let size = head_size + size_at s at in
    let t = walk_cut s rest in
    let ends : at + size ≡ after = omega (arith, r.follows) in
    record {
      parts = take size (drop at s) ∷ t.parts;
      fields = more (taken_out s at (field_is_whole form s at x after stands)) t.fields;
      bytes =
          sym (take-append-drop size (drop at s))
          ∙ ap (λ (l : List ℕ). take size (drop at s) ++ l) (drop-drop size at s ∙ ap (λ (m : ℕ). drop m s) ends ∙ t.bytes);
    }

-- an accepted plan is a sequence of whole fields
pub same_itself : (mode : Mode) (s : List ℕ) → Accepts mode s → SameFields s s
same_itself mode s a =
    let t = walk_cut s (read_as mode s a.plan a.ports a.flows a.reads).walk in
    record {
      first = t.parts;
      second = t.parts;
      fields = t.fields;
      bytes_first = t.bytes;
      bytes_second = t.bytes;
      permuted = Permᴰ.refl t.parts;
    }
