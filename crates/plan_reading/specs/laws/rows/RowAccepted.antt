-- A row of fields is accepted, and gives what its fields add, where each is in range, they stand in strict order with a header and
-- a flow among them, and name only what the row has.
use Rattle.std.specs.Prelude.{ℕ, ◌≤◌, ◌<◌, ◌≡◌, refl, ◌⊎◌, true}
use Rattle.std.proofs.Common.{sym, ap, ◌∙◌, inl, inr, arith, le-leb}
use mathlib.Core.List.Memᴰ
use mathlib.Core.List.{List, [], ◌∷◌, Memᴰ}
use Rattle.std.proofs.Math.ListN.{length, length-append}
use Rattle.cqf.specs.Bounded.{within}
use Rattle.cqf.specs.Form.{Form, older, newer}
use Rattle.plan.specs.Layout.{form_by}
use Rattle.plan_reading.specs.Part.{parts_of}
use Rattle.plan_reading.specs.Key.{header_key, key_of}
use Rattle.plan_reading.specs.Draft.{Draft, blank, has_key, flows_in, sum_of, added}
use Rattle.plan_reading.specs.Reading.{PlanRead, Mode, loose, strict, mode_in, accepted, max_bytes, closing, read_from, read_as_of}
use Rattle.plan_reading.specs.Strict.{Entry, fields_from, rising}
use Rattle.plan_reading.specs.FieldBytes.{bytes_of, row_bytes}
use Rattle.plan_reading.specs.laws.fields.Kinds.{header_tells}
use Rattle.plan_reading.specs.laws.stores.Stored.{Flagged, added_flagged, key_taken, key_stays}
use Rattle.plan_reading.specs.laws.order.Order.{flagged_blank}
use Rattle.plan_reading.specs.laws.reading.Steps.{step_Added}
use Rattle.plan_reading.specs.laws.reading.Onward.{read_end, read_more}
use Rattle.plan_reading.specs.laws.reading.Walk.{Reads, done, one}
use Rattle.plan_reading.specs.laws.reading.Closing.{close_accepted}
use Rattle.plan_reading.specs.laws.reading.PlanLength.{read_sized}
use Rattle.plan_reading.specs.results.StrictTheorem.{strict_accepts}
use Rattle.plan_reading.specs.laws.rows.SavedRow.{AllOk, none, more, added_all}
use Rattle.plan_reading.specs.laws.rows.EntryRead.{entry_length}
use Rattle.plan_reading.specs.laws.rows.RowRead.{row_read, row_in_order, row_ascends, row_reads}
use Rattle.plan_reading.specs.laws.order.Late.{known_none}
use Rattle.plan_reading.specs.laws.order.Rows.{Ascends}
use Rattle.plan_reading.specs.laws.order.InOrder.{none-late}
use Rattle.plan_reading.specs.laws.order.Strictly.{strict_from}
use Rattle.plan_reading.specs.laws.rows.RowAbsent.{AllPresent, none_absent}

pub record Row (form : Form) (es : List Entry) : Type 0 where
  pub ok : AllOk form es
  pub in_order : rising es ≡ true
  pub most : length (row_bytes es) ≤ max_bytes
  -- it begins with the header
  pub first : Entry
  pub others : List Entry
  pub begins : es ≡ first ∷ others
  pub header : key_of first.field ≡ header_key
  -- and has a flow
  pub with_flow : 0 < (added_all blank es).flows
  -- what its fields name is in the plan that they give
  pub present : AllPresent (added_all blank es).tables.rates (added_all blank es).tables.periods es

all_key
    : {form : Form} (d : Draft) (key : ℕ) {es : List Entry}
    → AllOk form es
    → Flagged d
    → has_key d key ≡ true
    → has_key (added_all d es) key ≡ true
unfolding added_all
all_key d key none flagged e = e
all_key d key (more {e = f} ok rest) flagged e =
    all_key (added d f.field f.route) key rest (added_flagged d f.field f.route flagged)
    (key_stays d f.field f.route key flagged ok.numbers e)

-- flows are counted, so a row that has one counts some
all_flows : (d : Draft) (es : List Entry) → d.flows ≤ (added_all d es).flows
unfolding added_all added
all_flows d [] = omega arith
all_flows d (e ∷ es) = omega (arith, all_flows (added d e.field e.route) es)

pub some_flow : (d : Draft) (es : List Entry) (f : Entry) → Memᴰ f es → sum_of flows_in (parts_of f.field f.route) ≡ 1 → 0 < (added_all d es).flows
unfolding added_all added
some_flow d [] f i is = absurd (Memᴰ.not-nil i)
some_flow d (e ∷ es) f i is = go (λ j. some_flow after es f j is) (Memᴰ.cases_cons i)
  where
    after : Draft
    after = added d e.field e.route

    go : (Memᴰ f es → 0 < (added_all after es).flows) → (f ≡ e) ⊎ Memᴰ f es → 0 < (added_all after es).flows
    go rest (inl same) =
        let counted : sum_of flows_in (parts_of e.field e.route) ≡ 1 = rw same at is in
        omega (arith, all_flows after es)
    go rest (inr i) = rest i

-- a walk to the end comes to the tests 8 and 9
walk_closes
    : {form : Form} (s : List ℕ) {at : ℕ} {d e : Draft} (last : ℕ)
    → Reads form s at d e
    → read_from form loose (length s) s at last d ≡ closing s e
walk_closes {form} s {at} {d} last (done same end) = read_end form loose s at last d (length s) end ∙ ap (closing s) same
walk_closes {form} s {at} {d} last (one x next less stands fresh no_repeat rest) =
    read_more form loose s at last d less next (key_of x) _ (step_Added form loose s at last d x next stands fresh refl no_repeat)
    ∙ walk_closes s (key_of x) rest

module _ {form : Form} (es : List Entry) (row : Row form es) where
  abbrev final : Draft
  final = added_all blank es

  with_header : has_key final header_key ≡ true
  unfolding added_all
  with_header = rw row.begins (go (rw row.begins at row.ok))
    where
      x : Entry
      x = row.first

      go : AllOk form (x ∷ row.others) → has_key (added_all (added blank x.field x.route) row.others) header_key ≡ true
      go (more ok rest) =
          let d = added blank x.field x.route in
          all_key d header_key rest (added_flagged blank x.field x.route flagged_blank)
          (sym (ap (has_key d) row.header) ∙ key_taken blank x.field x.route flagged_blank ok.numbers)

  -- its bytes tell the form
  pub row_told : form_by (row_bytes es) ≡ form
  unfolding row_bytes bytes_of form_by
  row_told = rw row.begins (go (rw row.begins at row.ok))
    where
      go : AllOk form (row.first ∷ row.others) → form_by (row_bytes (row.first ∷ row.others)) ≡ form
      go (more ok rest) = header_tells row.first.field ok.numbers row.header

  closes : closing (row_bytes es) final ≡ accepted final.tables final.ports final.flows
  closes =
      close_accepted (row_bytes es) final with_header (λ zero. omega (arith, row.with_flow))
      (none_absent final.tables.rates final.tables.periods (row_bytes es) (row_reads es row.ok row.in_order)
      (rw (row_read es row.ok) row.present))

  -- at least a head
  least : 1 ≤ length (row_bytes es)
  unfolding row_bytes
  least = rw row.begins (go (rw row.begins at row.ok))
    where
      go : AllOk form (row.first ∷ row.others) → 1 ≤ length (row_bytes (row.first ∷ row.others))
      go (more ok rest) =
          omega (arith, length-append (bytes_of row.first) (row_bytes row.others), entry_length row.first ok)

  size : within 1 max_bytes (length (row_bytes es)) ≡ true
  size = rw (le-leb 1 _ least, le-leb _ max_bytes row.most)

  abbrev answer : PlanRead
  answer = accepted final.tables final.ports final.flows

  loosely : read_from form loose (length (row_bytes es)) (row_bytes es) 0 0 blank ≡ answer
  loosely = walk_closes (row_bytes es) 0 (row_reads es row.ok row.in_order) ∙ closes

  -- read strictly too, since no field should have stood earlier
  strictly_read : read_from form strict (length (row_bytes es)) (row_bytes es) 0 0 blank ≡ answer
  strictly_read =
      let s = row_bytes es in
      let up : Ascends form 0 (fields_from form (length s) s 0) = rw (row_read es row.ok) (row_ascends es row.ok row.in_order) in
      strict_from form (length s) s 0 0 blank [] known_none
      ∙ rw (none-late form (length s) [] s 0 0 0 known_none (omega arith) up, loosely, le-leb (length s) (length s) (omega arith))

  loosely_read : read_as_of loose (row_bytes es) ≡ answer
  loosely_read = read_sized loose (row_bytes es) size ∙ ap (λ (f : Form). read_from f (mode_in f loose) (length (row_bytes es)) (row_bytes es) 0 0 blank) row_told ∙ by_form form loosely strictly_read
    where
      by_form
          : (f : Form)
          → read_from f loose (length (row_bytes es)) (row_bytes es) 0 0 blank ≡ answer
          → read_from f strict (length (row_bytes es)) (row_bytes es) 0 0 blank ≡ answer
          → read_from f (mode_in f loose) (length (row_bytes es)) (row_bytes es) 0 0 blank ≡ answer
      by_form older a b = a
      by_form newer a b = b

-- in either reading
pub row_accepted
    : {form : Form} (mode : Mode) (es : List Entry)
    → Row form es
    → read_as_of mode (row_bytes es)
    ≡ accepted (added_all blank es).tables (added_all blank es).ports (added_all blank es).flows
row_accepted loose es row = loosely_read es row
row_accepted strict es row =
    (strict_accepts (row_bytes es) (added_all blank es).tables (added_all blank es).ports (added_all blank es).flows).1
    (loosely_read es row, row_in_order es row.ok (row_told es row) row.in_order)
