-- A valid plan that fits the older form is saved in it as bytes that either reading accepts, and that hold the same plan.
use Rattle.std.specs.Prelude.{ℕ, ◌≤◌, ◌<◌, ◌≡◌, refl, List, true, ltb}
use Rattle.std.proofs.Common.{sym, ap, ◌∙◌}
use Rattle.cqf.specs.Bounded.{count_to}
use Rattle.cqf.specs.Form.{older, form_number, most_hops_in, form_fits}
use Rattle.cqf.specs.Limits.{port_slots, flow_slots}
use Rattle.cqf.specs.Plan.{Plan, rate_of, period_of, hops_of, valid_plan}
use Rattle.plan_reading.specs.Draft.{blank}
use Rattle.plan_reading.specs.Reading.{accepted, Mode, read_as_of}
use Rattle.plan_reading.specs.Saved.{spell, spell_all, header_part, saved_parts, saved_fields, saved_bytes}
use Rattle.plan_reading.specs.Tidy.{Tidy, tidied}
use Rattle.plan_reading.specs.Sized.{Sized}
use Rattle.plan_reading.specs.laws.validity.Valid.{accepted_valid}
use Rattle.plan_reading.specs.results.StrictTheorem.{read_loosely}
use Rattle.plan_reading.specs.laws.rows.SavedRow.{added_all}
use Rattle.plan_reading.specs.laws.rows.RowParts.{row_tables}
use Rattle.plan_reading.specs.laws.rows.Spelled.{spelled_parts}
use Rattle.plan_reading.specs.laws.rows.RowAccepted.{Row, row_accepted}
use Rattle.plan_reading.specs.laws.stores.Sources.{tables_of}
use Rattle.plan_reading.specs.laws.saved.SavedLength.{fits_hops, saved_length}
use Rattle.plan_reading.specs.laws.saved.Says.{ports_on}
use Rattle.plan_reading.specs.laws.saved.SavedOk.{saved_ok, saved_rising, saved_present, saved_header}
use Rattle.plan_reading.specs.laws.saved.Tidy.{tidied_same}
use Rattle.plan_reading.specs.laws.reading.Walked.{accepted_sized, accepted_tidy}
use Rattle.plan_reading.specs.laws.saved.SavedTables.{saved_tables}
use Rattle.plan_reading.specs.laws.saved.Counts.{ports_counted, flows_counted}
use Rattle.plan_reading.specs.laws.saved.SavedCounts.{saved_ports, saved_flows, saved_some}

-- the tables that the saved fields leave
fields_tables
    : (p : Plan)
    → valid_plan p ≡ true
    → ((f : ℕ) → f < flow_slots → hops_of p f ≤ most_hops_in older)
    → Sized p
    → (added_all blank (saved_fields p)).tables ≡ tidied p
unfolding blank
fields_tables p valid few sized =
    row_tables blank (saved_fields p) ∙ ap tables_of (spelled_parts (saved_parts p)) ∙ saved_tables p valid few sized

-- of a plan that can have been read in the older form
module _ (p : Plan) (valid : valid_plan p ≡ true) (sized : Sized p) (fits : form_fits (form_number older) p.hops ≡ true) where
  few : (f : ℕ) → f < flow_slots → hops_of p f ≤ most_hops_in older
  few = fits_hops older p.hops fits

  saved_row : Row older (saved_fields p)
  unfolding saved_bytes tidied
  saved_row =
      record {
        ok = saved_ok p valid few;
        in_order = saved_rising p valid few;
        most = saved_length p fits;
        first = spell (header_part p);
        others = spell_all (ports_on p);
        begins = saved_header p;
        header = refl;
        with_flow = saved_some p valid;
        present = rw (fields_tables p valid few sized) (saved_present p valid few);
      }

  -- the plan with the places past its routes 0, and as many ports and flows as it has
  pub saved_read
      : (mode : Mode)
      → read_as_of mode (saved_bytes p)
      ≡ accepted (tidied p) (count_to port_slots (λ q. ltb 0 (rate_of p q))) (count_to flow_slots (λ f. ltb 0 (period_of p f)))
  unfolding saved_bytes
  saved_read mode =
      row_accepted mode (saved_fields p) saved_row
      ∙ (λ i. accepted (fields_tables p valid few sized i) (saved_ports p i) (saved_flows p i))

  -- the plan itself, where it is tidy
  pub saved_held
      : Tidy p
      → (mode : Mode)
      → read_as_of mode (saved_bytes p)
      ≡ accepted p (count_to port_slots (λ q. ltb 0 (rate_of p q))) (count_to flow_slots (λ f. ltb 0 (period_of p f)))
  saved_held tidy mode =
      saved_read mode
      ∙ (λ i. accepted (tidied_same p sized tidy i) (count_to port_slots (λ q. ltb 0 (rate_of p q))) (count_to flow_slots (λ f. ltb 0 (period_of p f))))

-- so saving a plan that a reading accepted, and reading it again in either way, gives the plan and its numbers of port and flow fields
pub saved_again
    : (mode other : Mode) (s : List ℕ) (p : Plan) (ports flows : ℕ)
    → read_as_of mode s ≡ accepted p ports flows
    → form_fits (form_number older) p.hops ≡ true
    → read_as_of other (saved_bytes p) ≡ accepted p ports flows
saved_again mode other s p m k e fits =
    let valid = accepted_valid s p m k (read_loosely mode s p m k e) in
    saved_held p valid (accepted_sized mode s p m k e) fits (accepted_tidy mode s p m k e) other
    ∙ (λ i. accepted p (sym (ports_counted mode s p m k e) i) (sym (flows_counted mode s p m k e) i))
