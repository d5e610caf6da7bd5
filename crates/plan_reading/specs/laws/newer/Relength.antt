-- The plan saved in the newer form with another frame length for one flow is the plan with that length, saved in it.
use Prim.Native.Nat.{ℕ, zero, suc, ◌≤◌, ◌<◌}
use Rattle.std.specs.Prelude.{◌≡◌, Bool, true, false, ltb, length}
use Rattle.std.proofs.Math.Path.{refl, ap, ap₂}
use Rattle.std.proofs.Common.{sym, ◌∙◌, subst}
use mathlib.Core.List.{List, [], ◌∷◌, ◌++◌, map, map-append}
use Rattle.std.proofs.Math.Decide.{ℕ_discrete}
use native.Mathlib.Omega.{arith}
use Rattle.std.proofs.Math.ListN.{length-append}
use Rattle.std.proofs.Math.Seq.{get_or-set_same, get_or-set_other}
use borrow.Author.Tests.{eq-eqb, ne_eqb}
use Rattle.cqf.specs.Form.{newer}
use Rattle.cqf.specs.Limits.{port_slots, flow_slots, length_ok}
use Rattle.cqf.specs.Plan.{Plan, rate_of, period_of, present, valid_plan}
use Rattle.cqf.specs.Reprice.{with_length}
use Rattle.cqf.proofs.laws.RepriceValid.{length_slot, length_valid}
use Rattle.plan_reading.specs.Strict.{Entry}
use Rattle.plan_reading.specs.Reading.{accepted, Mode, read_as_of, max_bytes}
use Rattle.plan_reading.specs.FieldBytes.{size_of, bytes_of, row_bytes}
use Rattle.plan_reading.specs.Saved.{header2_field, port2_field, flow2_field, field_when, collect_fields, port2_fields, flow2_fields, newer_fields, form_bytes}
use Rattle.plan_reading.specs.Relength.{relengthed2, relengthed_bytes}
use Rattle.plan_reading.specs.Sized.{Sized}
use Rattle.plan_reading.specs.Tidy.{Tidy}
use Rattle.plan_reading.specs.laws.rows.SavedRow.{AllOk, none, more}
use Rattle.plan_reading.specs.laws.rows.EntryRead.{entry_length}
use Rattle.plan_reading.specs.laws.saved.Relength.{sized_changed}
use Rattle.plan_reading.specs.laws.newer.Fields.{newer_all}
use Rattle.plan_reading.specs.laws.newer.Row.{port_count, flow_count, newer_held}

module _ (g : Entry → Entry) where
  map_collect : (n : ℕ) (at other : ℕ → List Entry) → ((i : ℕ) → map g (at i) ≡ other i) → map g (collect_fields n at) ≡ collect_fields n other
  unfolding collect_fields
  map_collect zero at other same = refl
  map_collect (suc n) at other same =
      map-append g (collect_fields n at) (at n) ∙ ap₂ (λ (x y : List Entry). x ++ y) (map_collect n at other same) (same n)

  map_when : (b : Bool) (e : Entry) {f : Entry} → g e ≡ f → map g (field_when b e) ≡ field_when b f
  map_when true e same = ap (λ (x : Entry). x ∷ []) same
  map_when false e same = refl

newer_is : (p : Plan) → newer_fields p ≡ header2_field p ∷ (collect_fields port_slots (port2_fields p) ++ collect_fields flow_slots (flow2_fields p))
unfolding newer_fields
newer_is p = refl

module _ (p : Plan) (f bytes : ℕ) (slot : f < length p.lengths) where
  abbrev change : Entry → Entry
  change = relengthed2 (suc f) bytes

  flow2_changed : (i : ℕ) → change (flow2_field p i) ≡ flow2_field (with_length p f bytes) i
  unfolding with_length
  flow2_changed i = go (ℕ_discrete i f)
    where
      go : Dec (i ≡ f) → change (flow2_field p i) ≡ flow2_field (with_length p f bytes) i
      go (yes e) = rw (e, eq-eqb (suc f) (suc f) refl, get_or-set_same p.lengths f bytes 0 slot)
      go (no ne) = rw (ne_eqb (suc i) (suc f) (λ e. ne (omega arith)), get_or-set_other p.lengths f i bytes 0 ne)

  flows2_changed : (i : ℕ) → map change (flow2_fields p i) ≡ flow2_fields (with_length p f bytes) i
  unfolding with_length
  flows2_changed i = map_when change (ltb 0 (period_of p i)) (flow2_field p i) (flow2_changed i)

  ports2_same : (i : ℕ) → map change (port2_fields p i) ≡ port2_fields (with_length p f bytes) i
  unfolding with_length
  ports2_same i = map_when change (ltb 0 (rate_of p i)) (port2_field p i) refl

  header2_same : change (header2_field p) ≡ header2_field (with_length p f bytes)
  unfolding with_length
  header2_same = refl

  pub fields_changed : map change (newer_fields p) ≡ newer_fields (with_length p f bytes)
  fields_changed =
      let q = with_length p f bytes in
      ap (map change) (newer_is p)
      ∙ ap₂ (λ (e : Entry) (es : List Entry). e ∷ es) header2_same
      (map-append change (collect_fields port_slots (port2_fields p)) (collect_fields flow_slots (flow2_fields p))
      ∙ ap₂ (λ (x y : List Entry). x ++ y)
      (map_collect change port_slots (port2_fields p) (port2_fields q) ports2_same)
      (map_collect change flow_slots (flow2_fields p) (flow2_fields q) flows2_changed))
      ∙ sym (newer_is q)

  pub newer_changed : relengthed_bytes newer p (suc f) bytes ≡ form_bytes newer (with_length p f bytes)
  unfolding relengthed_bytes form_bytes
  newer_changed = ap row_bytes fields_changed

-- it is as long as the saved plan
module _ (change : Entry → Entry) (kept : (e : Entry) → size_of (change e).field ≡ size_of e.field) where
  as_long : {es : List Entry} → AllOk newer es → AllOk newer (map change es) → length (row_bytes (map change es)) ≡ length (row_bytes es)
  unfolding row_bytes
  as_long none b = refl
  as_long (more {e = e} {es = es} ok rest) (more okay others) =
      omega (
        arith,
        length-append (bytes_of (change e)) (row_bytes (map change es)),
        length-append (bytes_of e) (row_bytes es),
        entry_length e ok,
        entry_length (change e) okay,
        kept e,
        as_long rest others,
      )

-- so the changed bytes of a plan that was read in the newer form are accepted by either reading, with as many ports and flows, and hold
-- the plan with that length
pub newer_changed_read
    : (p : Plan) (f bytes : ℕ)
    → valid_plan p ≡ true
    → Sized p
    → Tidy p
    → length (form_bytes newer p) ≤ max_bytes
    → present p f ≡ true
    → length_ok bytes ≡ true
    → (mode : Mode)
    → read_as_of mode (relengthed_bytes newer p (suc f) bytes) ≡ accepted (with_length p f bytes) (port_count p) (flow_count p)
unfolding with_length form_bytes
newer_changed_read p f bytes valid sized tidy room there ok mode =
    let q = with_length p f bytes in
    let slot = length_slot p valid f there in
    let changed = length_valid p valid f there bytes ok in
    let fields = fields_changed p f bytes slot in
    let long : length (row_bytes (newer_fields q)) ≡ length (row_bytes (newer_fields p)) =
    ap (λ (es : List Entry). length (row_bytes es)) (sym fields)
    ∙ as_long (relengthed2 (suc f) bytes) (λ e. refl) (newer_all p valid) (subst (AllOk newer) (sym fields) (newer_all q changed)) in
    ap (read_as_of mode) (newer_changed p f bytes slot)
    ∙ newer_held q changed (sized_changed p f bytes slot sized) (omega (arith, room)) tidy mode
