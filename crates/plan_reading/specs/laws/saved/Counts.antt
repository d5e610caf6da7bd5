-- The numbers of port and flow fields that an accepted reading gives are those of the ports and flows in its tables.
use Rattle.std.specs.Prelude.{ℕ, ◌+◌, ◌≡◌, List, [], ◌∷◌, false, ltb}
use Rattle.std.proofs.Common.{sym, ap, ◌∙◌, arith}
use Rattle.cqf.specs.Form.{Form}
use Rattle.cqf.specs.Bounded.{count_to}
use Rattle.cqf.specs.Limits.{port_slots, flow_slots}
use Rattle.cqf.specs.Plan.{Plan, no_plan, rate_of, period_of}
use Rattle.cqf.proofs.laws.Bounded.{count_to_none}
use Rattle.plan.specs.Field.{Field}
use Rattle.plan_reading.specs.Draft.{Draft, blank, taken, added}
use Rattle.plan_reading.specs.Ranges.{NumbersOk}
use Rattle.plan_reading.specs.Reading.{accepted, Mode, read_as_of}
use Rattle.plan_reading.specs.Strict.{Entry, fields_in}
use Rattle.plan_reading.specs.laws.fields.Counted.{Counted}
use Rattle.plan_reading.specs.laws.fields.Kinds.{key_below, counted}
use Rattle.plan_reading.specs.laws.stores.Columns.{zeros}
use Rattle.plan_reading.specs.laws.rows.SavedRow.{added_all}
use Rattle.plan_reading.specs.laws.stores.Stored.{Flagged, added_flagged}
use Rattle.plan_reading.specs.laws.order.Order.{flagged_blank}
use Rattle.plan_reading.specs.laws.stores.Tables.{sized_none}
use Rattle.plan_reading.specs.laws.rows.RowParts.{Free, done, then}
use Rattle.plan_reading.specs.laws.reading.Walked.{accepted_row, accepted_counts}

-- both columns of a draft
record Counts (d : Draft) : Type 0 where
  flags : Flagged d
  ports : Counted d.tables.rates d.seen 1 port_slots d.ports
  flows : Counted d.tables.periods d.seen (port_slots + 1) flow_slots d.flows

counts_blank : Counts blank
unfolding blank no_plan
counts_blank =
    record {
      flags = flagged_blank;
      ports = record { size = sized_none.rates; is = sym (count_to_none port_slots _ (λ i l. rw (zeros port_slots i))); free = λ i l e. zeros port_slots i };
      flows = record { size = sized_none.periods; is = sym (count_to_none flow_slots _ (λ i l. rw (zeros flow_slots i))); free = λ i l e. zeros flow_slots i };
    }

counts_added : {form : Form} (d : Draft) (x : Field) (r : List ℕ) → NumbersOk form x → taken d x ≡ false → Counts d → Counts (added d x r)
unfolding added
counts_added d x r ok fresh c =
    let both = counted x ok r d.tables d.seen (omega (arith, c.flags, key_below x ok)) fresh c.ports c.flows in
    record { flags = added_flagged d x r c.flags; ports = both.0; flows = both.1 }

counts_row : {form : Form} (d : Draft) (es : List Entry) → Free form d es → Counts d → Counts (added_all d es)
unfolding added_all
counts_row d [] done c = c
counts_row d (e ∷ es) (then ok free rest) c =
    counts_row (added d e.field e.route) es rest (counts_added d e.field e.route ok.numbers free c)

-- every accepted reading gives as many ports as have a rate, and as many flows as have a period
module _ (mode : Mode) (s : List ℕ) (p : Plan) (ports flows : ℕ) (reads : read_as_of mode s ≡ accepted p ports flows) where
  all_counted : Counts (added_all blank (fields_in s))
  all_counted = counts_row blank (fields_in s) (accepted_row mode s p ports flows reads).free counts_blank

  pub ports_counted : ports ≡ count_to port_slots (λ q. ltb 0 (rate_of p q))
  ports_counted =
      sym (accepted_counts mode s p ports flows reads).0
      ∙ all_counted.ports.is
      ∙ ap (λ (q : Plan). count_to port_slots (λ i. ltb 0 (rate_of q i))) (accepted_row mode s p ports flows reads).leaves

  pub flows_counted : flows ≡ count_to flow_slots (λ f. ltb 0 (period_of p f))
  flows_counted =
      sym (accepted_counts mode s p ports flows reads).1
      ∙ all_counted.flows.is
      ∙ ap (λ (q : Plan). count_to flow_slots (λ i. ltb 0 (period_of q i))) (accepted_row mode s p ports flows reads).leaves
