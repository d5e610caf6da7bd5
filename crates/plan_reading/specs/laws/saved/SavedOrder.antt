-- The fields as which a plan is saved stand in strict order: their keys rise.
use Rattle.std.specs.Prelude.{ℕ, zero, suc, ◌+◌, ◌≤◌, ◌<◌, ◌≡◌, refl, List, [], ◌∷◌, ◌++◌, Bool, true, false, not, ltb}
use Rattle.std.proofs.Common.{arith}
use Rattle.cqf.specs.Form.{older}
use Rattle.cqf.specs.Limits.{port_slots, flow_slots}
use Rattle.cqf.specs.Plan.{Plan, clocks_equal, rate_of, extra_of, period_of, jitter_of}
use Rattle.plan_reading.specs.Key.{header_key, port_keys, flow_keys, extra_keys, jitter_keys, clock_key, key_slots, key_of}
use Rattle.plan_reading.specs.Ranges.{NumbersOk}
use Rattle.plan_reading.specs.Part.{Part}
use Rattle.plan_reading.specs.Strict.{rising}
use Rattle.plan_reading.specs.Saved.{spell, spell_all, when, collect, header_part, port_part, flow_part, extra_part, jitter_part, clock_part, port_parts, flow_parts, extra_parts, jitter_parts, saved_parts, saved_fields}
use Rattle.plan_reading.specs.laws.order.Rows.{Ascends, ascends_rising}
use Rattle.plan_reading.specs.laws.saved.Entries.{Says}
use Rattle.plan_reading.specs.laws.saved.Says.{header_says, port_says, flow_says, extra_says, jitter_says, clock_says}

-- fields in range whose keys rise, from the one key on and below the other
data Spans : ℕ → ℕ → List Part → Type 0 where
  none : {low high : ℕ} → low ≤ high → Spans low high []
  next
      : {low high : ℕ} {x : Part} {xs : List Part}
      → NumbersOk older (spell x).field
      → low ≤ key_of (spell x).field
      → Spans (suc (key_of (spell x).field)) high xs
      → Spans low high (x ∷ xs)

spans_ascends : {low high : ℕ} {xs : List Part} → Spans low high xs → Ascends older low (spell_all xs)
spans_ascends (none l) = Ascends.none
spans_ascends (next k l rest) = Ascends.next k l (spans_ascends rest)

spans_from : {low mid high : ℕ} {xs : List Part} → low ≤ mid → Spans mid high xs → Spans low high xs
spans_from {low} {high = high} l (none m) = let k : low ≤ high = omega arith in none k
spans_from {low} l (next {x = x} k m rest) = next {low = low} {x = x} k (omega arith) rest

spans_append : {low mid high : ℕ} {xs ys : List Part} → Spans low mid xs → Spans mid high ys → Spans low high (xs ++ ys)
spans_append (none l) after = spans_from l after
spans_append (next k l rest) after = next k l (spans_append rest after)

-- a field for each slot, or none
spans-when : (test : Bool) (x : Part) (key : ℕ) → (test ≡ true → NumbersOk older (spell x).field) → key_of (spell x).field ≡ key → Spans key (suc key) (when test x)
spans-when true x key ok same = let k : suc (key_of (spell x).field) ≤ suc key = omega arith in next {low = key} {x = x} (ok refl) (omega arith) (none k)
spans-when false x key ok same = let k : key ≤ suc key = omega arith in none k

spans-collect
    : (low n : ℕ) (at : ℕ → List Part)
    → ((i : ℕ) → i < n → Spans (low + i) (suc (low + i)) (at i))
    → Spans low (low + n) (collect n at)
unfolding collect
spans-collect low zero at all = let k : low ≤ low + 0 = omega arith in none k
spans-collect low (suc n) at all =
    let same : low + suc n ≡ suc (low + n) = omega arith in
    rw same (spans_append (spans-collect low n at (λ i l. all i (omega arith))) (all n (omega arith)))

module _ (p : Plan) (ok : (x : Part) → Says p x → NumbersOk older (spell x).field) where
  slot : (test : Bool) (x : Part) (key : ℕ) → (test ≡ true → Says p x) → key_of (spell x).field ≡ key → Spans key (suc key) (when test x)
  slot test x key says same = spans-when test x key (λ h. ok x (says h)) same

  saved_spans : Spans header_key key_slots (saved_parts p)
  unfolding saved_parts
  saved_spans =
      next {low = header_key} {x = header_part p} (ok (header_part p) (header_says p)) (omega arith)
      (spans_append
      (spans-collect port_keys port_slots (port_parts p)
      (λ q l. slot (ltb 0 (rate_of p q)) (port_part p q) (port_keys + q) (port_says p q l) (omega arith)))
      (spans_append
      (spans-collect flow_keys flow_slots (flow_parts p)
      (λ f l. slot (ltb 0 (period_of p f)) (flow_part p f) (flow_keys + f) (flow_says p f l) (omega arith)))
      (spans_append
      (spans-collect extra_keys port_slots (extra_parts p)
      (λ q l. slot (ltb 0 (extra_of p q)) (extra_part p q) (extra_keys + q) (extra_says p q l) (omega arith)))
      (spans_append
      (spans-collect jitter_keys flow_slots (jitter_parts p)
      (λ f l. slot (ltb 0 (jitter_of p f)) (jitter_part p f) (jitter_keys + f) (jitter_says p f l) (omega arith)))
      (slot (not (clocks_equal p)) (clock_part p) clock_key (clock_says p) refl)))))

  pub saved_ascends : Ascends older 0 (saved_fields p)
  saved_ascends = spans_ascends saved_spans

  pub saved_in_order : rising (saved_fields p) ≡ true
  saved_in_order = ascends_rising saved_ascends
