-- The bits that a port must send in a cycle, against its demand. What a run asks of the emission here is only how many frames
-- of each flow have one cycle for their own.
use Rattle.std.specs.Prelude.{◌≡◌, refl, Bool, length, get_or, eqb}
use Rattle.std.proofs.Common.{sym, ◌∙◌, zero-mul, le_of_eq, le_trans, arith, eq-eqb, eqb-true}
use Rattle.std.proofs.Math.Bool.{true, false, cond}
use mathlib.Mathlib.Data.Bool.Basic.{eq-false_of_not-eq-true}
use Prim.Native.Nat.{ℕ, suc, ◌+◌, ◌-◌, ◌*◌, ◌≤◌, ◌<◌, zero-le}
use Rattle.std.proofs.Math.Nat.{mul-le-mul_right}
use Rattle.cqf.specs.Bounded.{count_to, distinct}
use Rattle.cqf.specs.Limits.{flow_slots}
use Rattle.cqf.specs.Plan.{Plan, route_of, crosses, valid_plan}
use Rattle.cqf.specs.Port.{wire_bits}
use Rattle.cqf.specs.Condition.{frames, demand}
use Rattle.cqf.specs.Cycles.{Cycles}
use Rattle.cqf.specs.Run.{Places, is_queued_at, running, run, queued_bits}
use Rattle.cqf.proofs.laws.Bounded.{sum_to_le, count_to_le, count_to_none}
use Rattle.cqf.proofs.laws.Lists.{elem_index, elem-none, distinct_index}
use Rattle.cqf.proofs.laws.Valid.{crosses_held}
use Rattle.cqf.proofs.laws.Places.{run-track, track_queued, queued_track}

-- how many frames of flow f are emitted in cycle c
abbrev pub emitted_in : Cycles → ℕ → ℕ → ℕ
emitted_in cycles f c = count_to (length (cycles f)) (λ k. eqb (get_or (cycles f) k 0) c)

-- how many frames of flow f are queued at the port in slot q
abbrev pub queued_of : Cycles → Places → ℕ → ℕ → ℕ
queued_of cycles places f q = count_to (length (cycles f)) (λ k. is_queued_at (suc q) (places f k))

module _ (p : Plan) (T : ℕ) (cycles : Cycles) (c : ℕ) (places : Places) (goes : run p T cycles c ≡ running places) where
  -- where the port in slot q stands at i on the route, flow f has queued there what it emitted i + 1 cycles before: no more,
  -- since it crosses the port once, and no less
  pub queued_emitted
      : (f q i : ℕ)
      → distinct (route_of p f) ≡ true
      → i < length (route_of p f)
      → get_or (route_of p f) i 0 ≡ suc q
      → queued_of cycles places f q ≤ emitted_in cycles f (c - suc i)
  queued_emitted f q i once l at = count_to_le (length (cycles f)) _ _ own
    where
      own
          : (k : ℕ)
          → k < length (cycles f)
          → is_queued_at (suc q) (places f k) ≡ true
          → eqb (get_or (cycles f) k 0) (c - suc i) ≡ true
      own k _ h =
          let t = track_queued (suc q) (get_or (cycles f) k 0) (route_of p f) c (rw (run-track p T cycles c places goes f k) at h) in
          let same : i ≡ t.0 = distinct_index (route_of p f) once i t.0 l t.1 (at ∙ sym t.2) in
          eq-eqb (get_or (cycles f) k 0) (c - suc i) (omega (arith, t.3))

  pub emitted_queued
      : (f q i own : ℕ)
      → i < length (route_of p f)
      → get_or (route_of p f) i 0 ≡ suc q
      → c ≡ suc (own + i)
      → emitted_in cycles f own ≤ queued_of cycles places f q
  emitted_queued f q i own l at e = count_to_le (length (cycles f)) _ _ there
    where
      there : (k : ℕ) → k < length (cycles f) → eqb (get_or (cycles f) k 0) own ≡ true → is_queued_at (suc q) (places f k) ≡ true
      there k _ h =
          rw (run-track p T cycles c places goes f k, eqb-true (get_or (cycles f) k 0) own h, e, ← at)
          (queued_track own (route_of p f) i l)

  -- a flow has nothing queued at a port that it does not cross
  pub queued_none : (f q : ℕ) → crosses p f q ≡ false → queued_of cycles places f q ≡ 0
  queued_none f q h = count_to_none (length (cycles f)) _ (λ k _. eq-false_of_not-eq-true (no k))
    where
      no : (k : ℕ) → is_queued_at (suc q) (places f k) ≡ true → ⊥
      no k j =
          let t = track_queued (suc q) (get_or (cycles f) k 0) (route_of p f) c (rw (run-track p T cycles c places goes f k) at j) in
          elem-none (suc q) (route_of p f) h t.0 t.1 t.2

  -- no more than its demand, where no flow emits more than its frames in a cycle
  pub bits_most
      : valid_plan p ≡ true
      → ((f own : ℕ) → emitted_in cycles f own ≤ frames p f T)
      → (q : ℕ)
      → queued_bits p cycles places q ≤ demand p q T
  unfolding queued_bits demand
  bits_most valid few q = sum_to_le flow_slots _ _ (λ f l. flow f l (crosses p f q) refl)
    where
      flow
          : (f : ℕ)
          → f < flow_slots
          → (x : Bool)
          → crosses p f q ≡ x
          → queued_of cycles places f q * wire_bits p f q ≤ cond x (frames p f T * wire_bits p f q) 0
      flow f l true h =
          let t = elem_index (suc q) (route_of p f) h in
          mul-le-mul_right
          (wire_bits p f q)
          (le_trans (queued_emitted f q t.0 (crosses_held p valid f q l h).once t.1 t.2) (few f (c - suc t.0)))
      flow f l false h = rw (queued_none f q h) (le_of_eq (zero-mul (wire_bits p f q)))

  -- no less than its demand, where each flow that crosses it has all its frames queued there
  pub bits_least
      : (q : ℕ)
      → ((f : ℕ) → f < flow_slots → crosses p f q ≡ true → frames p f T ≤ queued_of cycles places f q)
      → demand p q T ≤ queued_bits p cycles places q
  unfolding queued_bits demand
  bits_least q many = sum_to_le flow_slots _ _ (λ f l. flow f l (crosses p f q) refl)
    where
      flow
          : (f : ℕ)
          → f < flow_slots
          → (x : Bool)
          → crosses p f q ≡ x
          → cond x (frames p f T * wire_bits p f q) 0 ≤ queued_of cycles places f q * wire_bits p f q
      flow f l true h = mul-le-mul_right (wire_bits p f q) (many f l h)
      flow f l false h = zero-le
