-- The answers to the question for the first unsent frame, case by case, by the plain question's answer.
use Rattle.std.specs.Prelude.{◌≡◌, Bool, true, false, cond, [], ◌∷◌, ℕ, suc, ◌+◌, ◌-◌, ◌/◌, ◌≤◌, ◌<◌, get_or}
use Rattle.std.proofs.Math.Path.{refl, ap, ap₂}
use Rattle.std.proofs.Common.{sym, subst, ◌∙◌, arith, le-leb}
use Rattle.std.proofs.Math.Option.{Option, none, some}
use Rattle.std.proofs.Math.Numerals.{add-one}
use Rattle.cqf.specs.Bounded.{within, lowest}
use Rattle.cqf.specs.Limits.{port_slots}
use Rattle.cqf.specs.Plan.{Plan, rate_of, blocking_of, extra_of, valid_plan}
use Rattle.cqf.specs.Port.{ns_per_bit, capacity_of, blocking_bits_of, window_of, window, capacity}
use Rattle.cqf.specs.Condition.{fails, lowest_failing, admissible}
use Rattle.cqf.proofs.laws.Bounded.{lowest-passes}
use Rattle.cqf.proofs.laws.Condition.{some_fails}
use Rattle.answers.specs.Answer.{Answer, result, refusal, refusal_number}
use Rattle.answers.specs.Refusals.{bad_duration, no_plan_held, not_admissible}
use Rattle.questions.specs.Outcome.{failing_at, check_answer}
use Rattle.emissions.specs.BadEmission.{burst_bits, unsent_at, first_unsent, unsent_slot}
use Rattle.emissions.specs.Unsent.{Unsent, sendable, unsent, unsent_answer}
use Rattle.emissions.specs.laws.Track.{lowest-within}
use Rattle.emissions.specs.laws.Unsent.{left_unsent}

-- the first value of a refusal
abbrev named : Answer (Unit {0}) → ℕ
named (result x) = 0
named (refusal number values) = get_or values 0 0

module _ (p : Plan) (T : ℕ) where
  -- both answers, by the three tests
  abbrev check_by : (valid ranged good : Bool) → Answer (Unit {0})
  check_by valid ranged good =
      cond valid (cond ranged (cond good (result tt) (failing_at not_admissible p T)) (refusal bad_duration (0 ∷ []))) (refusal no_plan_held (0 ∷ []))

  abbrev unsent_by : (valid ranged good : Bool) → Answer (Option Unsent)
  unsent_by valid ranged good =
      cond valid (cond ranged (result (cond good none (some (unsent p T (lowest_failing p T - 1))))) (refusal bad_duration (0 ∷ []))) (refusal no_plan_held (0 ∷ []))

  check_is : check_answer p T ≡ check_by (valid_plan p) (within 1 p.top T) (admissible p T)
  unfolding check_answer
  check_is = refl

  unsent_is : unsent_answer p T ≡ unsent_by (valid_plan p) (within 1 p.top T) (admissible p T)
  unfolding unsent_answer
  unsent_is = refl

  pub unsent-none : refusal no_plan_held (0 ∷ []) ≡ check_answer p T → refusal no_plan_held (0 ∷ []) ≡ unsent_answer p T
  unsent-none said = go (valid_plan p) (within 1 p.top T) (admissible p T) (said ∙ check_is) ∙ sym unsent_is
    where
      go : (v r g : Bool) → refusal no_plan_held (0 ∷ []) ≡ check_by v r g → refusal no_plan_held (0 ∷ []) ≡ unsent_by v r g
      go false r g e = refl
      go true false g e = let z : ◌≡◌ {A = ℕ} 20 10 = ap refusal_number e in absurd (omega arith)
      go true true true e = let z : ◌≡◌ {A = ℕ} 20 0 = ap refusal_number e in absurd (omega arith)
      go true true false e = let z : ◌≡◌ {A = ℕ} 20 21 = ap refusal_number e in absurd (omega arith)

  pub unsent_out : refusal bad_duration (0 ∷ []) ≡ check_answer p T → refusal bad_duration (0 ∷ []) ≡ unsent_answer p T
  unsent_out said = go (valid_plan p) (within 1 p.top T) (admissible p T) (said ∙ check_is) ∙ sym unsent_is
    where
      go : (v r g : Bool) → refusal bad_duration (0 ∷ []) ≡ check_by v r g → refusal bad_duration (0 ∷ []) ≡ unsent_by v r g
      go false r g e = let z : ◌≡◌ {A = ℕ} 10 20 = ap refusal_number e in absurd (omega arith)
      go true false g e = refl
      go true true true e = let z : ◌≡◌ {A = ℕ} 10 0 = ap refusal_number e in absurd (omega arith)
      go true true false e = let z : ◌≡◌ {A = ℕ} 10 21 = ap refusal_number e in absurd (omega arith)

  pub unsent-admissible : result tt ≡ check_answer p T → result none ≡ unsent_answer p T
  unsent-admissible said = go (valid_plan p) (within 1 p.top T) (admissible p T) (said ∙ check_is) ∙ sym unsent_is
    where
      go : (v r g : Bool) → result tt ≡ check_by v r g → result none ≡ unsent_by v r g
      go false r g e = let z : ◌≡◌ {A = ℕ} 0 20 = ap refusal_number e in absurd (omega arith)
      go true false g e = let z : ◌≡◌ {A = ℕ} 0 10 = ap refusal_number e in absurd (omega arith)
      go true true true e = refl
      go true true false e = let z : ◌≡◌ {A = ℕ} 0 21 = ap refusal_number e in absurd (omega arith)

  -- of a valid plan, at a duration from 1 to its top
  module _ (valid : valid_plan p ≡ true) (low : 1 ≤ T) (high : T ≤ p.top) where
    ranged : within 1 p.top T ≡ true
    ranged = rw (le-leb 1 T low, le-leb T p.top high)

    pub unsent_refused : admissible p T ≡ false → unsent_answer p T ≡ result (some (unsent p T (lowest_failing p T - 1)))
    unsent_refused bad = unsent_is ∙ rw (valid, ranged, bad)

    pub unsent_accepted : admissible p T ≡ true → unsent_answer p T ≡ result none
    unsent_accepted good = unsent_is ∙ rw (valid, ranged, good)

  -- what the refusal 21 says: the port that it names fails, and is the lowest
  pub record Refused (port : ℕ) : Type 0 where
    pub valid : valid_plan p ≡ true
    pub ranged : within 1 p.top T ≡ true
    pub bad : admissible p T ≡ false
    pub lowest : port ≡ lowest_failing p T

  module _ (port count : ℕ) (said : refusal not_admissible (port ∷ count ∷ []) ≡ check_answer p T) where
    pub refused : Refused port
    refused = go (valid_plan p) (within 1 p.top T) (admissible p T) refl refl refl (said ∙ check_is)
      where
        go
            : (v r g : Bool)
            → valid_plan p ≡ v
            → within 1 p.top T ≡ r
            → admissible p T ≡ g
            → refusal not_admissible (port ∷ count ∷ []) ≡ check_by v r g
            → Refused port
        go false r g a b d e = let z : ◌≡◌ {A = ℕ} 21 20 = ap refusal_number e in absurd (omega arith)
        go true false g a b d e = let z : ◌≡◌ {A = ℕ} 21 10 = ap refusal_number e in absurd (omega arith)
        go true true true a b d e = let z : ◌≡◌ {A = ℕ} 21 0 = ap refusal_number e in absurd (omega arith)
        go true true false a b d e = record { valid = a; ranged = b; bad = d; lowest = ap named e }

    pub unsent-found : result (some (unsent p T (port - 1))) ≡ unsent_answer p T
    unsent-found =
        let r = refused in
        ap (λ (n : ℕ). result (some (unsent p T (n - 1)))) r.lowest
        ∙ sym (unsent_is ∙ rw (r.valid, r.ranged, r.bad))

pub sub_suc : (n : ℕ) → suc n - 1 ≡ n
sub_suc n = omega arith

-- the slot of the lowest port that fails
module _ (p : Plan) (T : ℕ) (bad : admissible p T ≡ false) where
  lowest_slot : lowest port_slots (fails p T) < port_slots
  lowest_slot = let s = some_fails p T bad in lowest-within port_slots (fails p T) s.0 s.1 s.2

  lowest_of : lowest_failing p T - 1 ≡ lowest port_slots (fails p T)
  unfolding lowest_failing
  lowest_of = sub_suc (lowest port_slots (fails p T))

  pub failing_slot : (lowest_failing p T - 1 < port_slots) × (fails p T (lowest_failing p T - 1) ≡ true)
  failing_slot =
      (subst (λ (n : ℕ). n < port_slots) (sym lowest_of) lowest_slot, ap (fails p T) lowest_of ∙ lowest-passes port_slots (fails p T) lowest_slot)

pub failing-least : (p : Plan) (T : ℕ) → 1 ≤ lowest_failing p T
unfolding lowest_failing
failing-least p T = omega arith

-- what is told of the first unsent frame
module _ (p : Plan) (T q : ℕ) where
  pub slot_is : (cycle slot : ℕ) → cycle ≡ first_unsent p T q → slot ≡ lowest port_slots (unsent_at p T q cycle) → slot ≡ unsent_slot p T q
  unfolding unsent_slot
  slot_is cycle slot e d = d ∙ ap (λ (c : ℕ). lowest port_slots (unsent_at p T q c)) e

  pub slot_low : valid_plan p ≡ true → 1 ≤ T → q < port_slots → fails p T q ≡ true → unsent_slot p T q < port_slots
  slot_low valid long slot failed = (left_unsent p valid T long q slot failed).low

  pub unsent_told
      : (cycle slot bits most : ℕ)
      → cycle ≡ first_unsent p T q
      → slot ≡ unsent_slot p T q
      → bits ≡ burst_bits p T q cycle slot
      → most ≡ capacity_of (rate_of p slot) (window_of p.guard T) / ns_per_bit - blocking_bits_of (blocking_of p slot) (extra_of p slot)
      → record { failing = q + 1; cycle = cycle; port = slot + 1; bits = bits; most = most } ≡ unsent p T q
  unfolding unsent sendable capacity window
  unsent_told cycle slot bits most e d b m =
      let number = ap (λ (n : ℕ). n + 1) d ∙ add-one (unsent_slot p T q) in
      let sent = b ∙ ap₂ (burst_bits p T q) e d in
      let fit = m ∙ ap (λ (r : ℕ). capacity_of (rate_of p r) (window_of p.guard T) / ns_per_bit - blocking_bits_of (blocking_of p r) (extra_of p r)) d in
      λ i. record { failing = add-one q i; cycle = e i; port = number i; bits = sent i; most = fit i }
