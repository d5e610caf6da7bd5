-- The lowest port that leaves a frame unsent in a cycle, and the first such cycle.
use Rattle.std.specs.Prelude.{◌≡◌, Bool, true, false, List, ℕ, suc, ◌≤◌, ◌<◌, get_or}
use Rattle.std.proofs.Math.Path.{sym, ap}
use Rattle.std.proofs.Common.{subst, ◌∙◌, arith}
use Rattle.std.proofs.lemmas.Bool.{false≢true}
use mathlib.Mathlib.Data.Bool.Basic.{eq-false_of_not-eq-true}
use Rattle.std.proofs.Math.Nat.{le_trans, le_of_eq}
use Rattle.std.proofs.Math.Decide.{dec_lt}
use Rattle.cqf.specs.Bounded.{any_to, lowest}
use Rattle.cqf.specs.Limits.{port_slots, flow_slots, max_top}
use Rattle.cqf.specs.Overflow.{most_demand}
use Rattle.cqf.specs.Plan.{Plan, rate_of, blocking_of, extra_of, valid_plan}
use Rattle.cqf.specs.Port.{window_of, window, fails_by_of}
use Rattle.cqf.specs.Widened.{widened}
use Rattle.cqf.specs.Run.{overrun_at}
use Rattle.cqf.proofs.laws.Bounded.{sum_to_le, any_to_true, any_to_some, lowest_le, lowest-passes, lowest_below}
use Rattle.cqf.proofs.laws.Ranges.{top_most}
use Rattle.questions.specs.Failing.{fails_in}
use Rattle.emissions.specs.BadEmission.{latest_hop, burst_bits, unsent_at, first_unsent}
use Rattle.emissions.specs.Queued.{queued_flow}
use Rattle.emissions.specs.laws.Hops.{lowest_is, lowest_end}
use Rattle.emissions.specs.laws.Burst.{over_fits}
use Rattle.emissions.specs.laws.Queued.{flow_is, sum_most}

-- tests that say the same below a bound
lowest_same : (n : ℕ) (a b : ℕ → Bool) → ((i : ℕ) → i < n → a i ≡ b i) → lowest n a ≡ lowest n b
lowest_same n a b same = go (dec_lt (lowest n b) n)
  where
    before : (j : ℕ) → j < lowest n b → a j ≡ false
    before j l = same j (omega (arith, l, lowest_le n b)) ∙ lowest_below n b j l

    go : Dec (lowest n b < n) → lowest n a ≡ lowest n b
    go (yes l) = lowest_is n a (lowest n b) l (same (lowest n b) l ∙ lowest-passes n b l) before
    go (no m) =
        let end : lowest n b ≡ n = omega (arith, lowest_le n b, m) in
        lowest_end n a (λ j l. before j (omega (arith, l, end))) ∙ sym end

-- some number below the bound passes exactly where the lowest does
any_lowest : (n : ℕ) (b : ℕ → Bool) → lowest n b < n → any_to n b ≡ true
any_lowest n b l = any_to_some n b (lowest n b) l (lowest-passes n b l)

none-lowest : (n : ℕ) (b : ℕ → Bool) → (lowest n b < n → ⊥) → any_to n b ≡ false
none-lowest n b past = eq-false_of_not-eq-true λ some.
    let s = any_to_true n b some in
    false≢true (sym (lowest_below n b s.0 (omega (arith, s.1, lowest_le n b, past))) ∙ s.2)

module _ (p : Plan) (valid : valid_plan p ≡ true) (T : ℕ) (high : T ≤ p.top) (q c : ℕ) where
  pub window_most : window_of p.guard T ≤ max_top
  window_most = omega (arith, high, top_most p valid)

  pub bits_most : (r : ℕ) → r < port_slots → burst_bits p T q c r ≤ most_demand
  unfolding burst_bits widened
  bits_most r slot =
      le_trans (sum_to_le flow_slots _ (queued_flow p (widened p T) q (latest_hop p q) c r) (λ f l. le_of_eq (flow_is p valid T q c r f l)))
      (sum_most p valid q (latest_hop p q) c (widened p T) (over_fits p valid T high) r slot flow_slots (omega arith))

  -- by the bits of each port
  module _ (bits : List ℕ) (each : (r : ℕ) → r < port_slots → get_or bits r 0 ≡ burst_bits p T q c r) where
    pub over_is : lowest port_slots (fails_in p.rates p.blockings p.extras (window_of p.guard T) bits) ≡ lowest port_slots (unsent_at p T q c)
    unfolding unsent_at overrun_at window
    over_is =
        lowest_same port_slots _ _
        (λ r l. ap (fails_by_of (rate_of p r) (blocking_of p r) (extra_of p r) (window_of p.guard T)) (each r l))

    pub each_most : (r : ℕ) → r < port_slots → get_or bits r 0 ≤ most_demand
    each_most r l = rw (each r l) (bits_most r l)

-- the first cycle: none before it, and in it some port, or it is the one in which all bursts have come to the port
module _ (p : Plan) (T q : ℕ) where
  -- in none of the cycles before c is a frame left unsent
  abbrev pub NoneBefore : ℕ → Type 0
  NoneBefore c = (j : ℕ) → j < c → any_to port_slots (unsent_at p T q j) ≡ false

  pub none_yet : NoneBefore 0
  none_yet j l = absurd (omega arith)

  pub none_in : (c slot : ℕ) → slot ≡ lowest port_slots (unsent_at p T q c) → (slot < port_slots → ⊥) → any_to port_slots (unsent_at p T q c) ≡ false
  none_in c slot is past = none-lowest port_slots (unsent_at p T q c) (λ l. past (omega (arith, is, l)))

  pub first_is
      : (c slot : ℕ)
      → c < suc (latest_hop p q)
      → NoneBefore c
      → slot ≡ lowest port_slots (unsent_at p T q c)
      → slot < port_slots
      → c ≡ first_unsent p T q
  unfolding first_unsent
  first_is c slot l before is low =
      sym (lowest_is (suc (latest_hop p q)) (λ c. any_to port_slots (unsent_at p T q c)) c l (any_lowest port_slots (unsent_at p T q c) (subst (λ (n : ℕ). n < port_slots) is low)) before)

  pub first_last : (c : ℕ) → c ≡ suc (latest_hop p q) → NoneBefore c → c ≡ first_unsent p T q
  unfolding first_unsent
  first_last c is before =
      is ∙ sym (lowest_end (suc (latest_hop p q)) (λ c. any_to port_slots (unsent_at p T q c)) (λ j l. before j (subst (λ (n : ℕ). j < n) (sym is) l)))
