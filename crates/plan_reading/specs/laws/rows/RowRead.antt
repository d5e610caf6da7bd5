-- The bytes of a row of fields are read as the row: field by field, and where the fields rise, to its end.
use Rattle.std.specs.Prelude.{ℕ, zero, suc, ◌+◌, ◌≤◌, ◌≡◌, refl, List, [], ◌∷◌, ◌++◌, Bool, true, false, ltb, get_or, replicate}
use Rattle.std.proofs.Math.Path.{sym, ap}
use Rattle.std.proofs.Common.{ap₂, ◌∙◌, subst, append_assoc, append-nil, arith, ltb-true, ltb-false, get_or-set_other}
use Rattle.std.proofs.Math.ListN.{length, length-append, get_or-eq_default}
use Rattle.std.proofs.lemmas.List.{length-replicate, get_or-replicate}
use Rattle.plan.specs.Bytes.{head_size}
use Rattle.cqf.specs.Form.{Form}
use Rattle.plan.specs.Layout.{form_by}
use Rattle.plan.specs.Field.{Field, field, field_at}
use Rattle.plan_reading.specs.Key.{key_slots, key_of}
use Rattle.plan_reading.specs.Draft.{Draft, blank, has_key, field_repeats, added}
use Rattle.plan_reading.specs.Reading.{route_at}
use Rattle.plan_reading.specs.Strict.{Entry, fields_from, fields_in, rising, InOrder}
use Rattle.plan_reading.specs.FieldBytes.{bytes_of, row_bytes}
use Rattle.plan_reading.specs.laws.reading.Walk.{Reads}
use Rattle.plan_reading.specs.laws.order.Late.{past_end}
use Rattle.plan_reading.specs.laws.order.Rows.{row_refused, row_field, Ascends, none, next, rising_from}
use Rattle.plan_reading.specs.laws.rows.SavedRow.{EntryOk, AllOk, none, more, added_all}
use Rattle.plan_reading.specs.laws.rows.EntryRead.{entry_length, field_there, route_there}

-- s goes on at this offset with the bytes of these fields
record Holds (s : List ℕ) (at : ℕ) (es : List Entry) : Type 0 where
  front : List ℕ
  bytes : s ≡ front ++ row_bytes es
  offset : at ≡ length front

-- with no field left it ends there
holds_none : (s : List ℕ) (at : ℕ) → Holds s at [] → length s ≡ at
unfolding row_bytes
holds_none s at h = ap length (h.bytes ∙ append-nil h.front) ∙ sym h.offset

-- the field at the front is read, and the others follow it
module _ (form : Form) (s : List ℕ) (at : ℕ) (e : Entry) (es : List Entry) (ok : EntryOk form e) (h : Holds s at (e ∷ es)) where
  front_field : field_at form s at ≡ field e.field (at + length (bytes_of e))
  unfolding row_bytes
  front_field = rw (h.bytes, h.offset) (field_there h.front (row_bytes es) e ok)

  front_route : route_at e.field.kind s at ≡ e.route
  unfolding row_bytes
  front_route = rw (h.bytes, h.offset) (route_there h.front (row_bytes es) e ok)

  holds_rest : Holds s (at + length (bytes_of e)) es
  unfolding row_bytes
  holds_rest =
      record {
        front = h.front ++ bytes_of e;
        bytes = h.bytes ∙ sym (append_assoc h.front (bytes_of e) (row_bytes es));
        offset = omega (arith, h.offset, length-append h.front (bytes_of e));
      }

  front_inside : at + head_size ≤ length s
  unfolding row_bytes
  front_inside =
      let whole = ap length h.bytes ∙ length-append h.front (bytes_of e ++ row_bytes es) in
      omega (arith, whole, h.offset, length-append (bytes_of e) (row_bytes es), entry_length e ok)

-- the fields that are read
row_from : (form : Form) (n : ℕ) (s : List ℕ) (at : ℕ) {es : List Entry} → AllOk form es → Holds s at es → length s ≤ at + n → fields_from form n s at ≡ es
row_from form n s at none h enough = row_refused form n s at 2 at (past_end form s at (omega (arith, holds_none s at h)))
row_from form zero s at (more {e = e} {es = es} ok rest) h enough = absurd (omega (arith, front_inside form s at e es ok h))
row_from form (suc n) s at (more {e = e} {es = es} ok rest) h enough =
    let after = at + length (bytes_of e) in
    let long = entry_length e ok in
    row_field form n s at e.field after (front_field form s at e es ok h)
    ∙ ap₂ ◌∷◌ (λ i. record { field = e.field; route = front_route form s at e es ok h i }) (row_from form n s after rest (holds_rest form s at e es ok h) (omega arith))

whole_row : (es : List Entry) → Holds (row_bytes es) 0 es
whole_row es = record { front = []; bytes = refl; offset = refl }

-- all of them, read as a plan of their form
pub row_read : {form : Form} (es : List Entry) → AllOk form es → fields_from form (length (row_bytes es)) (row_bytes es) 0 ≡ es
row_read {form} es ok = row_from form (length (row_bytes es)) (row_bytes es) 0 ok (whole_row es) (omega arith)

-- and where their bytes tell the form
pub row_fields : {form : Form} (es : List Entry) → AllOk form es → form_by (row_bytes es) ≡ form → fields_in (row_bytes es) ≡ es
unfolding fields_in
row_fields es ok told = ap (λ (f : Form). fields_from f (length (row_bytes es)) (row_bytes es) 0) told ∙ row_read es ok

-- a row that rises is in order
pub row_in_order : {form : Form} (es : List Entry) → AllOk form es → form_by (row_bytes es) ≡ form → rising es ≡ true → InOrder (row_bytes es)
row_in_order es ok told up = ap rising (row_fields es ok told) ∙ up

pub row_ascends : {form : Form} (es : List Entry) → AllOk form es → rising es ≡ true → Ascends form 0 es
row_ascends {form} es ok up =
    subst (Ascends form 0) (row_read es ok) (rising_from form (length (row_bytes es)) (row_bytes es) 0 (ap rising (row_read es ok) ∙ up))

-- no key from this one on is taken
abbrev Free : Draft → ℕ → Type 0
Free d least = (key : ℕ) → least ≤ key → has_key d key ≡ false

free_blank : Free blank 0
unfolding blank
free_blank key from = go (ltb key key_slots) refl
  where
    go : (b : Bool) → ltb key key_slots ≡ b → ltb 0 (get_or (replicate key_slots 0) key 0) ≡ false
    go true e = rw (get_or-replicate {A = ℕ} key_slots key 0 0 (ltb-true key key_slots e))
    go false e =
        let past : length {A = ℕ} (replicate key_slots 0) ≤ key = omega (arith, length-replicate {A = ℕ} key_slots 0, ltb-false key key_slots e) in
        rw (get_or-eq_default {A = ℕ} (replicate key_slots 0) 0 {n = key} past)

free_added : (d : Draft) (x : Field) (r : List ℕ) (least : ℕ) → Free d least → least ≤ key_of x → Free (added d x r) (suc (key_of x))
unfolding added
free_added d x r least free from key after =
    rw (get_or-set_other d.seen (key_of x) key 1 0 (λ same. absurd (omega arith))) (free key (omega arith))

-- the walk over the row
walk_row
    : (form : Form) (s : List ℕ) (at least : ℕ) (d : Draft) {es : List Entry}
    → AllOk form es
    → Ascends form least es
    → Free d least
    → Holds s at es
    → Reads form s at d (added_all d es)
unfolding added_all
walk_row form s at least d none up free h = Reads.done {at = at} refl (omega (arith, holds_none s at h))
walk_row form s at least d (more {e = e} {es = es} ok rest) (next k low up) free h =
    let same = front_route form s at e es ok h in
    let after = at + length (bytes_of e) in
    let final = added_all (added d e.field e.route) es in
    Reads.one {at = at} {d = d} {e = final} e.field after (omega (arith, front_inside form s at e es ok h)) (front_field form s at e es ok h)
    (free (key_of e.field) low)
    (ap field_repeats same ∙ ok.no_repeat)
    (rw same
    (walk_row form s after (suc (key_of e.field)) (added d e.field e.route) rest up
    (free_added d e.field e.route least free low)
    (holds_rest form s at e es ok h)))

pub row_reads : {form : Form} (es : List Entry) → AllOk form es → rising es ≡ true → Reads form (row_bytes es) 0 blank (added_all blank es)
row_reads {form} es ok up = walk_row form (row_bytes es) 0 0 blank ok (row_ascends es ok up) free_blank (whole_row es)
