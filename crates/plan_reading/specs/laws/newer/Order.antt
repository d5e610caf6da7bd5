-- The fields as which a plan is saved in the newer form stand in strict order.
use Rattle.std.specs.Prelude.{ℕ, zero, suc, ◌+◌, ◌≤◌, ◌<◌, ◌≡◌, refl, List, [], ◌∷◌, ◌++◌, Bool, true, false, ltb}
use Rattle.std.proofs.Common.{arith}
use Rattle.cqf.specs.Form.{newer}
use Rattle.cqf.specs.Limits.{port_slots, flow_slots}
use Rattle.cqf.specs.Plan.{Plan, rate_of, period_of, valid_plan}
use Rattle.plan_reading.specs.Key.{header_key, port_keys, flow_keys, extra_keys, key_of}
use Rattle.plan_reading.specs.Ranges.{NumbersOk}
use Rattle.plan_reading.specs.Strict.{Entry, rising}
use Rattle.plan_reading.specs.Saved.{header2_field, port2_field, flow2_field, field_when, collect_fields, port2_fields, flow2_fields, newer_fields}
use Rattle.plan_reading.specs.laws.order.Rows.{Ascends, ascends_rising}
use Rattle.plan_reading.specs.laws.newer.Fields.{NewerField, newer_ok}

-- fields in range whose keys rise, from the one key on and below the other
data Between : ℕ → ℕ → List Entry → Type 0 where
  none : {low high : ℕ} → low ≤ high → Between low high []
  next
      : {low high : ℕ} {e : Entry} {es : List Entry}
      → NumbersOk newer e.field
      → low ≤ key_of e.field
      → Between (suc (key_of e.field)) high es
      → Between low high (e ∷ es)

between_ascends : {low high : ℕ} {es : List Entry} → Between low high es → Ascends newer low es
between_ascends (none l) = Ascends.none
between_ascends (next k l rest) = Ascends.next k l (between_ascends rest)

between_from : {low mid high : ℕ} {es : List Entry} → low ≤ mid → Between mid high es → Between low high es
between_from {low} {high = high} l (none m) = let k : low ≤ high = omega arith in none k
between_from {low} l (next {e = e} k m rest) = next {low = low} {e = e} k (omega arith) rest

between_append : {low mid high : ℕ} {es fs : List Entry} → Between low mid es → Between mid high fs → Between low high (es ++ fs)
between_append (none l) after = between_from l after
between_append (next k l rest) after = next k l (between_append rest after)

between_when : (test : Bool) (e : Entry) (key : ℕ) → (test ≡ true → NumbersOk newer e.field) → key_of e.field ≡ key → Between key (suc key) (field_when test e)
between_when true e key ok same = let k : suc (key_of e.field) ≤ suc key = omega arith in next {low = key} {e = e} (ok refl) (omega arith) (none k)
between_when false e key ok same = let k : key ≤ suc key = omega arith in none k

between_collect
    : (low n : ℕ) (at : ℕ → List Entry)
    → ((i : ℕ) → i < n → Between (low + i) (suc (low + i)) (at i))
    → Between low (low + n) (collect_fields n at)
unfolding collect_fields
between_collect low zero at all = let k : low ≤ low + 0 = omega arith in none k
between_collect low (suc n) at all =
    let same : low + suc n ≡ suc (low + n) = omega arith in
    rw same (between_append (between_collect low n at (λ i l. all i (omega arith))) (all n (omega arith)))

module _ (p : Plan) (valid : valid_plan p ≡ true) where
  newer_between : Between header_key extra_keys (newer_fields p)
  unfolding newer_fields
  newer_between =
      next {low = header_key} {e = header2_field p} (newer_ok p valid (NewerField.of_header_lem refl)).numbers (omega arith)
      (between_append
      (between_collect port_keys port_slots (port2_fields p)
      (λ q l. between_when (ltb 0 (rate_of p q)) (port2_field p q) (port_keys + q) (λ h. (newer_ok p valid (NewerField.of_port_lem q l h refl)).numbers) (omega arith)))
      (between_collect flow_keys flow_slots (flow2_fields p)
      (λ f l. between_when (ltb 0 (period_of p f)) (flow2_field p f) (flow_keys + f) (λ h. (newer_ok p valid (NewerField.of_flow_lem f l h refl)).numbers) (omega arith))))

  pub newer_ascends : Ascends newer 0 (newer_fields p)
  newer_ascends = between_ascends newer_between

  pub newer_rising : rising (newer_fields p) ≡ true
  newer_rising = ascends_rising newer_ascends
