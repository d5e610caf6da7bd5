-- The fields of an accepted plan: a row of which none has the key of another, and whose parts leave the plan.
use Rattle.std.specs.Prelude.{ℕ, zero, suc, ◌+◌, ◌≤◌, ◌≡◌, List, true, length}
use Rattle.std.proofs.Common.{sym, ap, ◌∙◌, subst, arith}
use Rattle.cqf.specs.Plan.{Plan, no_plan}
use Rattle.cqf.specs.Form.{Form}
use Rattle.plan.specs.Layout.{form_by}
use Rattle.plan_reading.specs.Draft.{Draft, blank}
use Rattle.plan_reading.specs.Reading.{accepted, Mode, route_at, read_as_of}
use Rattle.plan_reading.specs.Strict.{Entry, entry_of, fields_from, fields_in, rising, parts_row}
use Rattle.plan_reading.specs.FieldBytes.{row_bytes}
use Rattle.plan_reading.specs.Tidy.{Tidy}
use Rattle.plan_reading.specs.Sized.{Sized}
use Rattle.plan_reading.specs.laws.fields.Found.{found-numbers, found_route, found_forward}
use Rattle.plan_reading.specs.laws.reading.Walk.{Reads, done, one, read_as, closing_accepted}
use Rattle.plan_reading.specs.laws.stores.Tables.{sized_none, sized_all}
use Rattle.plan_reading.specs.laws.stores.Sources.{tables_of}
use Rattle.plan_reading.specs.laws.stores.Fresh.{Fresh}
use Rattle.plan_reading.specs.laws.order.Late.{past_end}
use Rattle.plan_reading.specs.laws.order.Order.{flagged_blank}
use Rattle.plan_reading.specs.laws.order.Rows.{row_refused, row_field}
use Rattle.plan_reading.specs.laws.rows.SavedRow.{EntryOk, AllOk, added_all}
use Rattle.plan_reading.specs.laws.rows.RowRead.{row_read, row_reads}
use Rattle.plan_reading.specs.laws.rows.RowParts.{row_tables, Free, done, then, free_fresh}
use Rattle.plan_reading.specs.laws.saved.Tidy.{fresh_tidy}

-- a walk over fields is one over such a row
pub walk_free
    : (form : Form) (s : List ℕ) (n : ℕ) {at : ℕ} {d e : Draft}
    → Reads form s at d e
    → length s ≤ at + n
    → Free form d (fields_from form n s at) × (added_all d (fields_from form n s at) ≡ e)
unfolding added_all
walk_free form s n {at} (done same end) enough = rw (row_refused form n s at 2 at (past_end form s at end)) (done, same)
walk_free form s zero (one x next less stands free no_repeat rest) enough = absurd (omega arith)
walk_free form s (suc n) {at} {d} {e} (one x next less stands free no_repeat rest) enough =
    let t = walk_free form s n rest (omega (arith, found_forward form s at x next stands)) in
    let ok : EntryOk form (entry_of x (route_at x.kind s at)) =
    record { numbers = found-numbers form s at x next stands; fits = found_route form s at x next stands; no_repeat = no_repeat } in
    rw (row_field form n s at x next stands) (then ok free t.0, t.1)

-- so the parts of a row of fields in range that rises are fresh
pub fresh_row : {form : Form} (es : List Entry) → AllOk form es → rising es ≡ true → Fresh (parts_row es)
fresh_row {form} es ok up =
    free_fresh blank flagged_blank
    (subst (Free form blank) (row_read es ok) (walk_free form (row_bytes es) (length (row_bytes es)) (row_reads es ok up) (omega arith)).0)

-- the fields of an accepted plan, and the tables that they leave
pub record AcceptedRow (s : List ℕ) (p : Plan) : Type 0 where
  pub free : Free (form_by s) blank (fields_in s)
  pub leaves : (added_all blank (fields_in s)).tables ≡ p
  pub fresh : Fresh (parts_row (fields_in s))
  pub tables : tables_of (parts_row (fields_in s)) ≡ p

pub accepted_row : (mode : Mode) (s : List ℕ) (p : Plan) (ports flows : ℕ) → read_as_of mode s ≡ accepted p ports flows → AcceptedRow s p
unfolding fields_in blank
accepted_row mode s p m k e =
    let w = read_as mode s p m k e in
    let t = walk_free (form_by s) s (length s) w.walk (omega arith) in
    let leaves = ap (λ (d : Draft). d.tables) t.1 ∙ (closing_accepted s w.final p m k w.closes).plan in
    record {
      free = t.0;
      leaves = leaves;
      fresh = free_fresh blank flagged_blank t.0;
      tables = sym (row_tables blank (fields_from (form_by s) (length s) s 0)) ∙ leaves;
    }

-- and the numbers of port and flow fields among them
pub accepted_counts
    : (mode : Mode) (s : List ℕ) (p : Plan) (ports flows : ℕ)
    → read_as_of mode s ≡ accepted p ports flows
    → ((added_all blank (fields_in s)).ports ≡ ports) × ((added_all blank (fields_in s)).flows ≡ flows)
unfolding fields_in
accepted_counts mode s p m k e =
    let w = read_as mode s p m k e in
    let t = (walk_free (form_by s) s (length s) w.walk (omega arith)).1 in
    let c = closing_accepted s w.final p m k w.closes in
    (ap (λ (d : Draft). d.ports) t ∙ c.ports_read, ap (λ (d : Draft). d.flows) t ∙ c.flows_read)

-- every accepted plan has tables of their sizes
pub accepted_sized : (mode : Mode) (s : List ℕ) (p : Plan) (ports flows : ℕ) → read_as_of mode s ≡ accepted p ports flows → Sized p
unfolding blank
accepted_sized mode s p m k e = subst Sized (accepted_row mode s p m k e).tables (sized_all no_plan (parts_row (fields_in s)) sized_none)

-- and is tidy
pub accepted_tidy : (mode : Mode) (s : List ℕ) (p : Plan) (ports flows : ℕ) → read_as_of mode s ≡ accepted p ports flows → Tidy p
accepted_tidy mode s p m k e =
    let a = accepted_row mode s p m k e in
    subst Tidy a.tables (fresh_tidy (parts_row (fields_in s)) a.fresh)
