-- What a turn leaves, by the answer to its steps.
use Rattle.std.proofs.Math.Path.{◌≡◌, ap, ap₂}
use Rattle.std.specs.Prelude.{refl, [], ◌∷◌, Bool, true, false, cond, ◌&&◌, ℕ, ◌+◌, ◌≤◌, leb}
use Rattle.std.proofs.Common.{sym, ◌∙◌, le_trans, leb-true}
use Rattle.std.proofs.lemmas.Bool.{false≢true}
use native.Mathlib.Omega.{arith}
use Rattle.cqf.specs.Bounded.{within}
use Rattle.cqf.specs.Limits.{max_top}
use Rattle.cqf.specs.Plan.{Plan, valid_plan}
use Rattle.cqf.specs.Condition.{failing, lowest_failing}
use Rattle.cqf.specs.FixedPoint.{Outcome, found, none, unfinished, after_steps, iterate}
use Rattle.cqf.proofs.laws.Ranges.{top_most}
use Rattle.answers.specs.Answer.{Answer, result, refusal, refusal_number}
use Rattle.questions.specs.FixedPoint.{FixedPoint, outcome_answer, fixed_point_answer}
use Rattle.batches.specs.Slot.{Slot, pending, answered, turn_steps, slot_by, turned}
use Rattle.batches.specs.laws.Steps.{uses}

second : (x y : Bool) → (x && y) ≡ true → y ≡ true
second true y e = e
second false y e = absurd (false≢true e)

-- the two numbers of a result
duration_of : Answer FixedPoint → ℕ
duration_of (result r) = r.duration
duration_of (refusal number values) = 0

steps_of : Answer FixedPoint → ℕ
steps_of (result r) = r.steps
steps_of (refusal number values) = 0

module _ (p : Plan) (t n : ℕ) where
  -- the answer and the slot, by the two tests and the outcome of the steps
  abbrev answer_by : Bool → Bool → Outcome → Answer FixedPoint
  answer_by x y o = cond x (cond y (outcome_answer p turn_steps o) (refusal 10 (0 ∷ []))) (refusal 20 (0 ∷ []))

  abbrev left_by : Bool → Bool → Outcome → Slot
  left_by x y o =
      cond x (cond y (slot_by p (n + turn_steps) (after_steps n o)) (answered (refusal 10 (0 ∷ [])))) (answered (refusal 20 (0 ∷ [])))

  abbrev Left : Answer FixedPoint → Type 0
  Left a = (a ≡ answer_by (valid_plan p) (within 1 p.top t) (iterate p t turn_steps))

  is_answer : {a : Answer FixedPoint} → a ≡ fixed_point_answer p t turn_steps → Left a
  unfolding fixed_point_answer
  is_answer e = e

  of_result : (o : Outcome) (u k : ℕ) → outcome_answer p turn_steps o ≡ result (record { duration = u; steps = k }) → o ≡ found u k
  unfolding duration_of steps_of
  of_result (found v m) u k e = ap₂ found (ap duration_of e) (ap steps_of e)
  of_result (none m) u k e = let z : ◌≡◌ {A = ℕ} 22 0 = ap refusal_number e in absurd (omega arith)
  of_result (unfinished v) u k e = let z : ◌≡◌ {A = ℕ} 26 0 = ap refusal_number e in absurd (omega arith)

  of_none : (o : Outcome) (a b k : ℕ) → outcome_answer p turn_steps o ≡ refusal 22 (a ∷ b ∷ k ∷ []) → o ≡ none k
  of_none (found v m) a b k e = let z : ◌≡◌ {A = ℕ} 0 22 = ap refusal_number e in absurd (omega arith)
  of_none (none m) a b k e = let same : m ≡ k = cc in ap none same
  of_none (unfinished v) a b k e = let z : ◌≡◌ {A = ℕ} 26 22 = ap refusal_number e in absurd (omega arith)

  of_stopped : (o : Outcome) (u k : ℕ) → outcome_answer p turn_steps o ≡ refusal 26 (u ∷ k ∷ []) → (o ≡ unfinished u) × (k ≡ turn_steps)
  of_stopped (found v m) u k e = let z : ◌≡◌ {A = ℕ} 0 26 = ap refusal_number e in absurd (omega arith)
  of_stopped (none m) u k e = let z : ◌≡◌ {A = ℕ} 22 26 = ap refusal_number e in absurd (omega arith)
  of_stopped (unfinished v) u k e = let same : v ≡ u = cc in (ap unfinished same, cc)

  -- the two tests passed
  tests : (x y : Bool) (o : Outcome) (number : ℕ) → number ≡ refusal_number (answer_by x y o) → (number ≡ 20 → ⊥) → (number ≡ 10 → ⊥) → (x ≡ true) × (y ≡ true)
  tests true true o number e a b = (refl, refl)
  tests true false o number e a b = absurd (b e)
  tests false y o number e a b = absurd (a e)

  module _ (number : ℕ) (not_20 : number ≡ 20 → ⊥) (not_10 : number ≡ 10 → ⊥) {a : Answer FixedPoint} (is : refusal_number a ≡ number) (e : a ≡ fixed_point_answer p t turn_steps) where
    passed : (valid_plan p ≡ true) × (within 1 p.top t ≡ true)
    passed = tests (valid_plan p) (within 1 p.top t) (iterate p t turn_steps) number (sym is ∙ ap refusal_number (is_answer e)) not_20 not_10

    -- so the duration is at most the highest top, the answer is that of the outcome, and so is the slot
    below_top : t ≤ max_top
    below_top = le_trans (leb-true t p.top (second (leb 1 t) (leb t p.top) passed.1)) (top_most p passed.0)

    outcome : a ≡ outcome_answer p turn_steps (iterate p t turn_steps)
    outcome = rw (passed.0, passed.1) at (is_answer e)

    left : turned p t n ≡ slot_by p (n + turn_steps) (after_steps n (iterate p t turn_steps))
    unfolding turned
    left = rw (passed.0, passed.1)

  pub record Ended (k : ℕ) (x : Slot) : Type 0 where
    pub leaves : turned p t n ≡ x
    pub below : t ≤ max_top
    pub few : k ≤ turn_steps

  pub turned-found
      : (u k : ℕ)
      → result (record { duration = u; steps = k }) ≡ fixed_point_answer p t turn_steps
      → Ended k (answered (result (record { duration = u; steps = n + k })))
  turned-found u k e =
      let is = of_result (iterate p t turn_steps) u k (sym (outcome 0 (λ q. omega arith) (λ q. omega arith) refl e)) in
      record {
        leaves = left 0 (λ q. omega arith) (λ q. omega arith) refl e ∙ ap (λ o. slot_by p (n + turn_steps) (after_steps n o)) is;
        below = below_top 0 (λ q. omega arith) (λ q. omega arith) refl e;
        few = rw is at (uses p turn_steps t);
      }

  pub Turned-none
      : (a b k : ℕ)
      → refusal 22 (a ∷ b ∷ k ∷ []) ≡ fixed_point_answer p t turn_steps
      → Ended k (answered (refusal 22 (a ∷ b ∷ (n + k) ∷ [])))
  Turned-none a b k e =
      let says = outcome 22 (λ q. omega arith) (λ q. omega arith) refl e in
      let is = of_none (iterate p t turn_steps) a b k (sym says) in
      let whole : refusal 22 (a ∷ b ∷ k ∷ []) ≡ outcome_answer p turn_steps (none k) = says ∙ ap (outcome_answer p turn_steps) is in
      let lowest : a ≡ lowest_failing p p.top = cc in
      let many : b ≡ failing p p.top = cc in
      record {
        leaves =
            left 22 (λ q. omega arith) (λ q. omega arith) refl e
            ∙ ap (λ o. slot_by p (n + turn_steps) (after_steps n o)) is
            ∙ ap₂ (λ x y. answered (refusal 22 (x ∷ y ∷ (n + k) ∷ []))) (sym lowest) (sym many);
        below = below_top 22 (λ q. omega arith) (λ q. omega arith) refl e;
        few = rw is at (uses p turn_steps t);
      }

  pub turned_stopped
      : (u k : ℕ)
      → refusal 26 (u ∷ k ∷ []) ≡ fixed_point_answer p t turn_steps
      → Ended k (pending p u (n + k)) × (t + k ≤ u)
  turned_stopped u k e =
      let is = of_stopped (iterate p t turn_steps) u k (sym (outcome 26 (λ q. omega arith) (λ q. omega arith) refl e)) in
      let far : t + turn_steps ≤ u = rw is.0 at (uses p turn_steps t) in (
        record {
          leaves =
              left 26 (λ q. omega arith) (λ q. omega arith) refl e
              ∙ ap (λ o. slot_by p (n + turn_steps) (after_steps n o)) is.0
              ∙ ap (λ m. pending p u (n + m)) (sym is.1);
          below = below_top 26 (λ q. omega arith) (λ q. omega arith) refl e;
          few = omega (arith, is.1);
        },
        omega (arith, is.1),
      )

  -- the refusals of the question are final answers
  pub turned_refused : (a : Answer FixedPoint) → 1 ≤ refusal_number a → refusal_number a ≤ 20 → a ≡ fixed_point_answer p t turn_steps → turned p t n ≡ answered a
  unfolding turned
  turned_refused a some few e = go (valid_plan p) (within 1 p.top t) (iterate p t turn_steps) (is_answer e)
    where
      outcome_number : (o : Outcome) → refusal_number (outcome_answer p turn_steps o) ≡ refusal_number a → ⊥
      outcome_number (found u k) q = omega arith
      outcome_number (none k) q = omega arith
      outcome_number (unfinished u) q = omega arith

      go : (x y : Bool) (o : Outcome) → a ≡ answer_by x y o → left_by x y o ≡ answered a
      go true true o q = absurd (outcome_number o (sym (ap refusal_number q)))
      go true false o q = ap answered (sym q)
      go false y o q = ap answered (sym q)
