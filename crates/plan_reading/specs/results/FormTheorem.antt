-- What holds of both forms: a plan that was read is saved, in the form that it was read in, as bytes that hold it, and these are the very
-- bytes where the form is the newer one; and two plans that say the same are one, whatever their forms.
use Rattle.std.specs.Prelude.{ℕ, ◌-◌, ◌≤◌, ◌<◌, ◌≡◌, Bool, true, false, not}
use Rattle.std.proofs.Math.Path.{refl, ap, subst}
use Rattle.std.proofs.Common.{sym, ◌∙◌}
use mathlib.Core.List.{List, [], ◌∷◌, Memᴰ}
use native.Mathlib.Omega.{arith}
use Rattle.std.proofs.Math.Decide.{dec_lt}
use Rattle.std.proofs.Math.ListN.{length}
use Rattle.cqf.specs.Form.{Form, older, newer, form_number, form_fits}
use Rattle.cqf.specs.Plan.{Plan, clocks_equal, extra_of, jitter_of, valid_plan}
use Rattle.cqf.proofs.laws.Ranges.{top_positive}
use Rattle.plan.specs.Bytes.{Octets}
use Rattle.plan.specs.Layout.{form_by}
use Rattle.plan_reading.specs.Part.{Part, header, port, flow, extra, jitter, clock}
use Rattle.plan_reading.specs.FieldOrder.{Nothing, SameFields}
use Rattle.plan_reading.specs.Ranges.{PartOk}
use Rattle.plan_reading.specs.Reading.{accepted, Mode, read_as_of, max_bytes}
use Rattle.plan_reading.specs.Strict.{Accepts, Entry, fields_from, fields_in, parts_row}
use Rattle.plan_reading.specs.FieldBytes.{bytes_of, row_bytes}
use Rattle.plan_reading.specs.Saved.{saved_parts, saved_bytes, newer_fields, form_bytes}
use Rattle.plan_reading.specs.SameParts.{parts_in, SameParts}
use Rattle.plan_reading.specs.laws.fields.Within.{within_low, within_high}
use Rattle.plan_reading.specs.laws.fields.Ranged.{all_at}
use Rattle.plan_reading.specs.laws.validity.Valid.{accepted_valid}
use Rattle.plan_reading.specs.laws.reading.PlanLength.{sized, read_form_lem}
use Rattle.plan_reading.specs.laws.reading.Walk.{read_as}
use Rattle.plan_reading.specs.laws.reading.Walked.{accepted_row, accepted_sized, accepted_tidy}
use Rattle.plan_reading.specs.laws.reading.Fits.{read_fits}
use Rattle.plan_reading.specs.laws.order.InOrder.{permuted_holds}
use Rattle.plan_reading.specs.laws.order.Content.{same_content}
use Rattle.plan_reading.specs.laws.rows.SavedRow.{AllOk}
use Rattle.plan_reading.specs.laws.rows.RowParts.{free_ok}
use Rattle.plan_reading.specs.laws.rows.Written.{plan_long}
use Rattle.plan_reading.specs.laws.stores.Fresh.{fresh_stands}
use Rattle.plan_reading.specs.laws.saved.Entries.{Stands, Tells, Says, clocks_equal_lem, clocks_differ}
use Rattle.plan_reading.specs.laws.saved.SavedLength.{saved_length}
use Rattle.plan_reading.specs.laws.saved.SavedRead.{saved_again}
use Rattle.plan_reading.specs.laws.saved.SavedBack.{part_there, header_there, ok_at}
use Rattle.plan_reading.specs.laws.saved.SavedSlots.{RowOf}
use Rattle.plan_reading.specs.laws.saved.SavedTables.{left_tables}
use Rattle.plan_reading.specs.laws.saved.Tidy.{tidied_same}
use Rattle.plan_reading.specs.laws.newer.Back.{newer_fields_back, newer_back}
use Rattle.plan_reading.specs.laws.newer.Row.{newer_held}
use Rattle.plan_reading.specs.laws.saved.Counts.{ports_counted, flows_counted}
use Rattle.plan_reading.specs.results.StrictTheorem.{read_loosely}

-- the bytes of a saved plan tell the form in which it was saved
pub bytes_tell : (form : Form) (p : Plan) → form_by (form_bytes form p) ≡ form
unfolding form_bytes saved_parts newer_fields row_bytes bytes_of form_by
bytes_tell older p = refl
bytes_tell newer p = refl

module _ (mode : Mode) (s : List ℕ) (p : Plan) (ports flows : ℕ) (e : read_as_of mode s ≡ accepted p ports flows) where
  -- A plan of the newer form is saved as the very bytes that were read.
  pub newer_saved : form_by s ≡ newer → Octets s → form_bytes newer p ≡ s
  newer_saved told octets = newer_back mode s p ports flows e told octets

  fits_in : (form : Form) → form_by s ≡ form → form_fits (form_number form) p.hops ≡ true
  fits_in form told = subst (λ (f : Form). form_fits (form_number f) p.hops ≡ true) told (read_fits mode s p ports flows e)

  newer_room : form_by s ≡ newer → length (form_bytes newer p) ≤ max_bytes
  unfolding form_bytes fields_in
  newer_room told =
      omega (
        arith,
        ap (λ (es : List Entry). length (row_bytes es)) (newer_fields_back mode s p ports flows e told),
        plan_long s (read_as mode s p ports flows e).walk,
        within_high 1 max_bytes (length s) (sized (form_by s) mode s p ports flows (sym (read_form_lem mode s) ∙ e)),
      )

  -- A plan that was read is saved, in its form, as no more bytes than a plan may have.
  pub form_length : length (form_bytes (form_by s) p) ≤ max_bytes
  unfolding form_bytes saved_bytes
  form_length = go (form_by s) refl
    where
      go : (form : Form) → form_by s ≡ form → length (form_bytes form p) ≤ max_bytes
      go older told = saved_length p (fits_in older told)
      go newer told = newer_room told

  -- Either reading accepts these bytes, and they hold the plan, with the same numbers of port and flow fields.
  pub form_again : (other : Mode) → read_as_of other (form_bytes (form_by s) p) ≡ accepted p ports flows
  unfolding form_bytes saved_bytes
  form_again other = go (form_by s) refl
    where
      go : (form : Form) → form_by s ≡ form → read_as_of other (form_bytes form p) ≡ accepted p ports flows
      go older told = saved_again mode other s p ports flows e (fits_in older told)
      go newer told =
          newer_held p (accepted_valid s p ports flows (read_loosely mode s p ports flows e)) (accepted_sized mode s p ports flows e) (newer_room told)
          (accepted_tidy mode s p ports flows e) other
          ∙ (λ i. accepted p (sym (ports_counted mode s p ports flows e) i) (sym (flows_counted mode s p ports flows e) i))

  -- and tell the form that was read.
  pub form_kept : form_by (form_bytes (form_by s) p) ≡ form_by s
  form_kept = bytes_tell (form_by s) p

-- what a plan says stands among the parts of its bytes, and each of them that says more than its absence is said
module _ (mode : Mode) (s : List ℕ) (p : Plan) (ports flows : ℕ) (e : read_as_of mode s ≡ accepted p ports flows) where
  pub parts_stand : (x : Part) → Memᴰ x (parts_in s) → PartOk x × Stands p x
  unfolding parts_in
  parts_stand x m =
      let a = accepted_row mode s p ports flows e in
      (all_at PartOk (parts_row (fields_in s)) a.fresh.ok m, subst (λ (q : Plan). Stands q x) a.tables (fresh_stands a.fresh m))

  pub says_there : (x : Part) → Says p x → Memᴰ x (parts_in s)
  unfolding parts_in
  says_there x says =
      let a = accepted_row mode s p ports flows e in
      let xs = parts_row (fields_in s) in
      let valid = accepted_valid s p ports flows (read_loosely mode s p ports flows e) in
      part_there xs a.fresh (header_there xs (rw a.tables (top_positive p valid))) x (subst (λ (q : Plan). Says q x) (sym a.tables) says)

tells_something : (x : Part) → Tells x → Nothing x → ⊥
tells_something (header g t) h void = void
tells_something (port n v b) h void = void
tells_something (flow n t c l r) h void = void
tells_something (extra n b) h void = omega arith
tells_something (jitter n j) h void = omega arith
tells_something (clock k) h void = h void

-- Two plans that are accepted, in whatever form, and say the same are the same plan.
pub same_parts
    : (mode other : Mode) (s t : List ℕ) (p q : Plan) (m k n l : ℕ)
    → read_as_of mode s ≡ accepted p m k
    → read_as_of other t ≡ accepted q n l
    → SameParts s t
    → p ≡ q
unfolding parts_in
same_parts mode other s t p q m k n l a b same =
    sym (tidied_same p (accepted_sized mode s p m k a) (accepted_tidy mode s p m k a))
    ∙ sym (left_tables p valid (parts_row (fields_in t)) row (accepted_sized mode s p m k a))
    ∙ (accepted_row other t q n l b).tables
  where
    valid : valid_plan p ≡ true
    valid = accepted_valid s p m k (read_loosely mode s p m k a)

    -- what p says stands in q
    across : (x : Part) → Says p x → Stands q x
    across x h = (parts_stand other t q n l b x ((same x (tells_something x h.tells)).0 (says_there mode s p m k a x h))).1

    told : (x : Part) → (Nothing x → ⊥) → Memᴰ x (parts_in t) → Stands p x
    told x some i = (parts_stand mode s p m k a x ((same x some).1 i)).1

    stand : (x : Part) → Memᴰ x (parts_in t) → Stands p x
    stand (header g t) i = told (header g t) (λ void. void) i
    stand (port n v b) i = told (port n v b) (λ void. void) i
    stand (flow n t c l r) i = told (flow n t c l r) (λ void. void) i
    stand (extra j c) i = by_part (dec_lt 0 c) (dec_lt 0 (extra_of p (j - 1)))
      where
        there : Stands q (extra j c)
        there = (parts_stand other t q n l b (extra j c) i).1

        by_part : Dec (0 < c) → Dec (0 < extra_of p (j - 1)) → Stands p (extra j c)
        by_part (yes some) d = told (extra j c) (λ void. omega arith) i
        by_part (no none) (yes some) =
            (there.0, sym (across (extra j (extra_of p (j - 1))) (record { stands = (there.0, refl); tells = some })).1 ∙ there.1)
        by_part (no none) (no zero) = (there.0, omega arith)
    stand (jitter j c) i = by_part (dec_lt 0 c) (dec_lt 0 (jitter_of p (j - 1)))
      where
        there : Stands q (jitter j c)
        there = (parts_stand other t q n l b (jitter j c) i).1

        by_part : Dec (0 < c) → Dec (0 < jitter_of p (j - 1)) → Stands p (jitter j c)
        by_part (yes some) d = told (jitter j c) (λ void. omega arith) i
        by_part (no none) (yes some) =
            (there.0, sym (across (jitter j (jitter_of p (j - 1))) (record { stands = (there.0, refl); tells = some })).1 ∙ there.1)
        by_part (no none) (no zero) = (there.0, omega arith)
    stand (clock c) i = by_part (clocks_equal q) refl (clocks_equal p) refl
      where
        there : q.clock ≡ c
        there = (parts_stand other t q n l b (clock c) i).1

        by_part : (x : Bool) → clocks_equal q ≡ x → (y : Bool) → clocks_equal p ≡ y → p.clock ≡ c
        by_part false x y z = told (clock c) (λ same. clocks_differ q (ap not x) (there ∙ same)) i
        by_part true x true z = clocks_equal_lem p z ∙ sym (clocks_equal_lem q x) ∙ there
        by_part true x false z = sym (across (clock p.clock) (record { stands = refl; tells = clocks_differ p (ap not z) })) ∙ there

    row : RowOf p (parts_row (fields_in t))
    row =
        record {
          fresh = (accepted_row other t q n l b).fresh;
          stand = λ {x} i. stand x i;
          said = λ x h. (same x (tells_something x h.tells)).0 (says_there mode s p m k a x h);
        }

-- Two plans that are accepted and have the same fields, in any order, are of one form.
pub same_told : (mode other : Mode) (s t : List ℕ) → Accepts mode s → Accepts other t → SameFields s t → form_by s ≡ form_by t
unfolding fields_in row_bytes
same_told mode other s t a b same = go (fields_from (form_by s) (length s) s 0) refl
  where
    first : AllOk (form_by s) (fields_in s)
    first = free_ok (accepted_row mode s a.plan a.ports a.flows a.reads).free

    second : AllOk (form_by t) (fields_in t)
    second = free_ok (accepted_row other t b.plan b.ports b.flows b.reads).free

    go : (es : List Entry) → fields_in s ≡ es → form_by s ≡ form_by t
    go [] none =
        let w = (read_as mode s a.plan a.ports a.flows a.reads).walk in
        let long = within_low 1 max_bytes (length s) (sized (form_by s) mode s a.plan a.ports a.flows (sym (read_form_lem mode s) ∙ a.reads)) in
        absurd (omega (arith, plan_long s w, ap (λ (es : List Entry). length (row_bytes es)) none))
    go (f ∷ es) row =
        let m : Memᴰ f (fields_in s) = subst (λ (es : List Entry). Memᴰ f es) (sym row) (mathlib.Core.List.Memᴰ.head refl) in
        let n = permuted_holds (same_content mode other s t a b same) f m in
        sym (ok_at first m).numbers.kind ∙ (ok_at second n).numbers.kind
