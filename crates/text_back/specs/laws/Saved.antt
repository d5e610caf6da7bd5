-- A plan with 0 in each place past its routes is saved as the same bytes.
use Prim.Native.Nat.{ℕ, zero, suc, ◌<◌}
use Rattle.std.specs.Prelude.{◌≡◌, refl, true, ltb}
use Rattle.std.proofs.Math.Path.{ap}
use Rattle.std.proofs.Common.{ap₂, arith}
use mathlib.Core.List.{List, ◌∷◌, ◌++◌}
use Rattle.std.proofs.Math.ListN.{length}
use Rattle.cqf.specs.Form.{Form, older, newer}
use Rattle.cqf.specs.Limits.{port_slots, flow_slots}
use Rattle.cqf.specs.Plan.{Plan, period_of, count_of, length_of, jitter_of, valid_plan}
use Rattle.plan.specs.Layout.{Kind}
use Rattle.plan_reading.specs.FieldBytes.{row_bytes}
use Rattle.plan_reading.specs.Part.{Part, flow}
use Rattle.plan_reading.specs.Saved.{when, collect, header_part, port_parts, flow_parts, extra_parts, jitter_parts, clock_parts, saved_parts, spell_all, header2_field, field_when, collect_fields, port2_fields, flow2_fields, newer_fields, form_bytes}
use Rattle.plan_reading.specs.Strict.{Entry, entry_of}
use Rattle.plan_reading.specs.Tidy.{tidied}
use Rattle.text_back.specs.laws.Closing.{same_route}

-- what is collected slot by slot is the same where it is in each
collect_same : (n : ℕ) (at other : ℕ → List Part) → ((i : ℕ) → i < n → at i ≡ other i) → collect n at ≡ collect n other
unfolding collect
collect_same zero at other same = refl
collect_same (suc n) at other same = ap₂ ◌++◌ (collect_same n at other (λ i l. same i (omega arith))) (same n (omega arith))

fields_same : (n : ℕ) (at other : ℕ → List Entry) → ((i : ℕ) → i < n → at i ≡ other i) → collect_fields n at ≡ collect_fields n other
unfolding collect_fields
fields_same zero at other same = refl
fields_same (suc n) at other same = ap₂ ◌++◌ (fields_same n at other (λ i l. same i (omega arith))) (same n (omega arith))

module _ (p : Plan) (valid : valid_plan p ≡ true) where
  same_parts : saved_parts (tidied p) ≡ saved_parts p
  unfolding saved_parts tidied
  same_parts =
      ap (λ (xs : List Part).
      header_part p ∷ (collect port_slots (port_parts p) ++ (xs ++ (collect port_slots (extra_parts p) ++ (collect flow_slots (jitter_parts p) ++ clock_parts p)))))
      (collect_same flow_slots (flow_parts (tidied p)) (flow_parts p)
      (λ f l. ap (λ (r : List ℕ). when (ltb 0 (period_of p f)) (flow (suc f) (period_of p f) (count_of p f) (length_of p f) r)) (same_route p valid f l)))

  same_fields : newer_fields (tidied p) ≡ newer_fields p
  unfolding newer_fields tidied
  same_fields =
      ap (λ (es : List Entry). header2_field p ∷ (collect_fields port_slots (port2_fields p) ++ es))
      (fields_same flow_slots (flow2_fields (tidied p)) (flow2_fields p)
      (λ f l. ap (λ (r : List ℕ).
      field_when (ltb 0 (period_of p f))
      (entry_of (record { kind = Kind.flow2; numbers = suc f ∷ period_of p f ∷ count_of p f ∷ length_of p f ∷ jitter_of p f ∷ mathlib.Core.List.[]; hops = length r }) r))
      (same_route p valid f l)))

  pub tidied_bytes : (form : Form) → form_bytes form (tidied p) ≡ form_bytes form p
  unfolding form_bytes
  tidied_bytes older = ap (λ (xs : List Part). row_bytes (spell_all xs)) same_parts
  tidied_bytes newer = ap row_bytes same_fields
