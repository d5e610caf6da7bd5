-- The parts of a row of fields: where none of the fields has the key of another none of the parts has, and the tables that the
-- fields leave are those that the parts leave.
use Rattle.std.specs.Prelude.{ℕ, ◌≡◌, refl, ◌≢◌, List, [], ◌∷◌, ◌++◌, true, false}
use Rattle.std.proofs.Common.{sym, ap, ◌∙◌, true≢false}
use Rattle.cqf.specs.Form.{Form}
use Rattle.cqf.specs.Plan.{Plan}
use Rattle.plan_reading.specs.Part.{Part, parts_of}
use Rattle.plan_reading.specs.Key.{key_of}
use Rattle.plan_reading.specs.Store.{store, store_all}
use Rattle.plan_reading.specs.Draft.{Draft, has_key, taken, added}
use Rattle.plan_reading.specs.Ranges.{PartOk}
use Rattle.plan_reading.specs.Strict.{Entry, parts_row}
use Rattle.plan_reading.specs.laws.fields.Ranged.{All, all_append, all_map}
use Rattle.plan_reading.specs.laws.fields.ByPart.{part_key, Apart, Separate}
use Rattle.plan_reading.specs.laws.fields.Kinds.{parts_ok, parts_owned, own_separate}
use Rattle.plan_reading.specs.laws.stores.Commute.{Of, apart_parts}
use Rattle.plan_reading.specs.laws.stores.Stored.{Flagged, added_flagged, key_taken, key_stays}
use Rattle.plan_reading.specs.laws.stores.Fresh.{Fresh}
use Rattle.plan_reading.specs.laws.rows.SavedRow.{EntryOk, AllOk, none, more, added_all}

pub store_append : (p : Plan) (xs ys : List Part) → store_all p (xs ++ ys) ≡ store_all (store_all p xs) ys
unfolding store_all
store_append p [] ys = refl
store_append p (x ∷ xs) ys = store_append (store p x) xs ys

pub row_tables : (d : Draft) (es : List Entry) → (added_all d es).tables ≡ store_all d.tables (parts_row es)
unfolding added_all added store_all
row_tables d [] = refl
row_tables d (e ∷ es) =
    row_tables (added d e.field e.route) es ∙ sym (store_append d.tables (parts_of e.field e.route) (parts_row es))

-- fields in range that may be added one after the other: none is there before
pub data Free (form : Form) : Draft → List Entry → Type 0 where
  done : {d : Draft} → Free form d []
  then
      : {d : Draft} {e : Entry} {es : List Entry}
      → EntryOk form e
      → taken d e.field ≡ false
      → Free form (added d e.field e.route) es
      → Free form d (e ∷ es)

pub free_ok : {form : Form} {d : Draft} {es : List Entry} → Free form d es → AllOk form es
free_ok done = none
free_ok (then ok free rest) = more ok (free_ok rest)

-- none of them has a key that is taken
abbrev Other : ℕ → List Entry → Type 0
Other key [] = Unit {0}
Other key (e ∷ es) = (key ≢ key_of e.field) × Other key es

free_other : {form : Form} (d : Draft) (key : ℕ) {es : List Entry} → Flagged d → has_key d key ≡ true → Free form d es → Other key es
free_other d key flags there done = tt
free_other d key flags there (then {e = e} ok free rest) = (
  λ same. true≢false (sym (sym (ap (has_key d) same) ∙ there) ∙ free),
  free_other (added d e.field e.route) key (added_flagged d e.field e.route flags)
      (key_stays d e.field e.route key flags ok.numbers there) rest,
)

-- parts of fields of other keys have other keys
apart_row : {form : Form} (x : Part) (key : ℕ) → Of form key x → {es : List Entry} → AllOk form es → Other key es → Apart x (parts_row es)
apart_row x key is none h = tt
apart_row {form} x key is (more {e = e} {es = es} ok rest) h =
    all_append (λ y. part_key x ≢ part_key y) (parts_of e.field e.route) (parts_row es)
    (apart_parts form x key (key_of e.field) h.0 is (parts_of e.field e.route) (parts_owned e.field ok.numbers e.route))
    (apart_row x key is rest h.1)

separate_append : (xs ys : List Part) → Separate xs → Separate ys → All (λ x. Apart x ys) xs → Separate (xs ++ ys)
separate_append [] ys a b c = b
separate_append (x ∷ xs) ys a b c = (all_append (λ y. part_key x ≢ part_key y) xs ys a.0 c.0, separate_append xs ys a.1 b c.1)

pub free_fresh : {form : Form} (d : Draft) {es : List Entry} → Flagged d → Free form d es → Fresh (parts_row es)
free_fresh d flags done = record { ok = tt; separate = tt }
free_fresh {form} d flags (then {e = e} {es = es} ok free rest) =
    let x = e.field in
    let r = e.route in
    let after = free_fresh (added d x r) (added_flagged d x r flags) rest in
    let others = free_other (added d x r) (key_of x) (added_flagged d x r flags) (key_taken d x r flags ok.numbers) rest in
    record {
      ok = all_append PartOk (parts_of x r) (parts_row es) (parts_ok x ok.numbers r ok.fits) after.ok;
      separate =
          separate_append (parts_of x r) (parts_row es) (own_separate x r) after.separate
          (all_map (Of form (key_of x)) (λ u. Apart u (parts_row es)) (parts_of x r) (λ u is. apart_row u (key_of x) is (free_ok rest) others)
          (parts_owned x ok.numbers r));
    }
