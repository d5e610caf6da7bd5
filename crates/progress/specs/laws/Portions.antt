-- What a portion more gives, from where the steps before it stopped.
use Rattle.std.specs.Prelude.{◌≡◌, [], ◌∷◌, true, ℕ, ◌+◌, ◌≤◌, ◌<◌}
use Rattle.std.proofs.Common.{sym, ap, ◌∙◌, le_refl, arith}
use Rattle.std.proofs.Math.Decide.{dec_le}
use Rattle.cqf.specs.Plan.{Plan, valid_plan}
use Rattle.cqf.specs.Need.{least_from}
use Rattle.cqf.specs.FixedPoint.{steps_from, Outcome, found, none, unfinished, iterate, Converges}
use Rattle.cqf.proofs.laws.Ranges.{top_positive}
use Rattle.cqf.proofs.laws.Ended.{ended-found, ended-none, ended_finished}
use Rattle.cqf.proofs.laws.Converges.{converges, steps_top}
use Rattle.answers.specs.Answer.{result, refusal, refusal_number}
use Rattle.answers.specs.Refusals.{bad_duration, no_plan_held, no_least, not_finished}
use Rattle.questions.specs.FixedPoint.{outcome_answer, fixed_point_answer}
use Rattle.sequences.specs.Iterations.{plus_steps}
use Rattle.sequences.specs.laws.Iterations.{answers, of_result, of_none, of_unfinished, iterations}
use Rattle.progress.specs.Portion.{portion_steps, Reached}

pub reached_start : (p : Plan) → valid_plan p ≡ true → Reached p 1 0
unfolding iterate
reached_start p valid = record { valid = valid; stopped = answers p valid 1 0 (le_refl 1) (top_positive p valid) }

-- the answer of steps that stopped says how many there were, and none is 20 or 10
of_stopped : (p : Plan) (n : ℕ) (o : Outcome) (u k : ℕ) → outcome_answer p n o ≡ refusal not_finished (u ∷ k ∷ []) → n ≡ k
of_stopped p n (found t m) u k e = let z : ◌≡◌ {A = ℕ} 0 26 = ap refusal_number e in absurd (omega arith)
of_stopped p n (none m) u k e = let z : ◌≡◌ {A = ℕ} 22 26 = ap refusal_number e in absurd (omega arith)
of_stopped p n (unfinished t) u k e = cc

not_refused : (p : Plan) (n : ℕ) (o : Outcome) → (refusal_number (outcome_answer p n o) ≡ no_plan_held → ⊥) × (refusal_number (outcome_answer p n o) ≡ bad_duration → ⊥)
not_refused p n (found t m) = (λ e. absurd (omega (arith, e)), λ e. absurd (omega (arith, e)))
not_refused p n (none m) = (λ e. absurd (omega (arith, e)), λ e. absurd (omega (arith, e)))
not_refused p n (unfinished t) = (λ e. absurd (omega (arith, e)), λ e. absurd (omega (arith, e)))

module _ {p : Plan} {at used : ℕ} (r : Reached p at used) where
  first : Converges p 1
  first = converges p r.valid 1 (le_refl 1) (top_positive p r.valid)

  stop : iterate p 1 used ≡ unfinished at
  stop = of_unfinished p used (iterate p 1 used) at (sym (answers p r.valid 1 used (le_refl 1) (top_positive p r.valid)) ∙ r.stopped)

  -- fewer steps than there are durations up to top
  pub reached_few : used < p.top
  reached_few = go (dec_le (steps_from p 1) used)
    where
      go : Dec (steps_from p 1 ≤ used) → used < p.top
      go (yes l) = absurd (ended_finished p (least_from p 1) (steps_from p 1) (sym (first.ends used l) ∙ stop))
      go (no l) = omega (arith, steps_top p 1)

  -- a single call with so many steps more
  pub portioned : (n : ℕ) → fixed_point_answer p 1 (used + n) ≡ plus_steps used (fixed_point_answer p at n)
  portioned n = (iterations p r.valid 1 (le_refl 1) (top_positive p r.valid)).resumes used n at r.stopped

  module _ (n : ℕ) where
    again : Converges p at
    again = converges p r.valid at (first.reached used at stop).0 (first.reached used at stop).1

    gives : fixed_point_answer p at n ≡ outcome_answer p n (iterate p at n)
    gives = answers p r.valid at n (first.reached used at stop).0 (first.reached used at stop).1

    -- no more steps are used than given
    pub found_within : {u k : ℕ} → result (record { duration = u; steps = k }) ≡ fixed_point_answer p at n → k ≤ n
    found_within {u} {k} e = go (dec_le (steps_from p at) n)
      where
        is : iterate p at n ≡ found u k
        is = of_result p n (iterate p at n) u k (sym (e ∙ gives))

        go : Dec (steps_from p at ≤ n) → k ≤ n
        go (yes l) = omega (arith, l, (ended-found p (least_from p at) (steps_from p at) (sym (again.ends n l) ∙ is)).1)
        go (no l) = let d = sym is ∙ again.stops n (omega arith) in absurd (let z : ◌≡◌ {A = ℕ} 0 1 = cc in omega arith)

    pub none_within : {a b k : ℕ} → refusal no_least (a ∷ b ∷ k ∷ []) ≡ fixed_point_answer p at n → k ≤ n
    none_within {a} {b} {k} e = go (dec_le (steps_from p at) n)
      where
        is : iterate p at n ≡ none k
        is = of_none p n (iterate p at n) a b k (sym (e ∙ gives))

        go : Dec (steps_from p at ≤ n) → k ≤ n
        go (yes l) = omega (arith, l, (ended-none p (least_from p at) (steps_from p at) (sym (again.ends n l) ∙ is)).0)
        go (no l) = let d = sym is ∙ again.stops n (omega arith) in absurd (let z : ◌≡◌ {A = ℕ} 0 1 = cc in omega arith)

    pub stopped_within : {u k : ℕ} → refusal not_finished (u ∷ k ∷ []) ≡ fixed_point_answer p at n → k ≤ n
    stopped_within {u} {k} e = omega (arith, of_stopped p n (iterate p at n) u k (sym (e ∙ gives)))

    pub not_20 : refusal no_plan_held (0 ∷ []) ≡ fixed_point_answer p at n → ⊥
    not_20 e = (not_refused p n (iterate p at n)).0 (sym (ap refusal_number (e ∙ gives)))

    pub not_10 : refusal bad_duration (0 ∷ []) ≡ fixed_point_answer p at n → ⊥
    not_10 e = (not_refused p n (iterate p at n)).1 (sym (ap refusal_number (e ∙ gives)))

  -- the portion came to no end either: further on
  pub reached_next
      : {u k : ℕ}
      → refusal not_finished (u ∷ k ∷ []) ≡ fixed_point_answer p 1 (used + portion_steps)
      → Reached p u k × (used < k)
  reached_next {u} {k} e =
      let all = used + portion_steps in
      let says = answers p r.valid 1 all (le_refl 1) (top_positive p r.valid) in
      let same : all ≡ k = of_stopped p all (iterate p 1 all) u k (sym (e ∙ says)) in
      (record { valid = r.valid; stopped = ap (fixed_point_answer p 1) (sym same) ∙ sym e }, omega (arith, same))
