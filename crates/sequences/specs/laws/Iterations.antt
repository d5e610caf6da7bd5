-- The answers of the fixed-point iteration for a valid plan and a start from 1 to top.
use Rattle.std.proofs.Math.Path.{◌≡◌, refl, ap}
use Rattle.std.proofs.Common.{sym, ◌∙◌, le_refl, le_trans, arith, le-leb}
use Rattle.std.specs.Prelude.{Bool, cond, [], ◌∷◌, ℕ, ◌+◌, ◌≤◌, leb}
use Rattle.std.proofs.Math.Bool.{true, false}
use Rattle.cqf.specs.Bounded.{within}
use Rattle.cqf.specs.Plan.{Plan, valid_plan}
use Rattle.cqf.specs.Condition.{least}
use Rattle.cqf.specs.FixedPoint.{steps_from, Outcome, found, none, unfinished, after_steps, iterate, Converges}
use Rattle.cqf.proofs.laws.Ranges.{top_positive}
use Rattle.cqf.proofs.laws.Converges.{converges, converges_least}
use Rattle.answers.specs.Answer.{Answer, result, refusal, refusal_number}
use Rattle.answers.specs.Refusals.{no_least, not_finished}
use Rattle.questions.specs.Outcome.{failing_at}
use Rattle.questions.specs.FixedPoint.{FixedPoint, outcome_answer, fixed_point_answer}
use Rattle.sequences.specs.Iterations.{last_plus, plus_steps, but_last, without_steps, Iterations, AgreesWithLeast}
use Rattle.questions.specs.laws.Answers.{fixed_point_within}
use Rattle.questions.specs.laws.Searched.{least-searched}

-- the two numbers of a result
duration_of : Answer FixedPoint → ℕ
duration_of (result r) = r.duration
duration_of (refusal number values) = 0

steps_of : Answer FixedPoint → ℕ
steps_of (result r) = r.steps
steps_of (refusal number values) = 0

-- the outcome behind an answer
module _ (p : Plan) (n : ℕ) where
  pub of_result : (o : Outcome) (u k : ℕ) → outcome_answer p n o ≡ result (record { duration = u; steps = k }) → o ≡ found u k
  unfolding duration_of steps_of
  of_result (found t m) u k e =
      let same : t ≡ u = ap duration_of e in
      let used : m ≡ k = ap steps_of e in
      rw (same, used)
  of_result (none m) u k e = let z : ◌≡◌ {A = ℕ} 22 0 = ap refusal_number e in absurd (omega arith)
  of_result (unfinished t) u k e = let z : ◌≡◌ {A = ℕ} 26 0 = ap refusal_number e in absurd (omega arith)

  pub of_none : (o : Outcome) (a b k : ℕ) → outcome_answer p n o ≡ refusal no_least (a ∷ b ∷ k ∷ []) → o ≡ none k
  of_none (found t m) a b k e = let z : ◌≡◌ {A = ℕ} 0 22 = ap refusal_number e in absurd (omega arith)
  of_none (none m) a b k e = let same : m ≡ k = cc in ap none same
  of_none (unfinished t) a b k e = let z : ◌≡◌ {A = ℕ} 26 22 = ap refusal_number e in absurd (omega arith)

  pub of_unfinished : (o : Outcome) (u : ℕ) → outcome_answer p n o ≡ refusal not_finished (u ∷ n ∷ []) → o ≡ unfinished u
  of_unfinished (found t m) u e = let z : ◌≡◌ {A = ℕ} 0 26 = ap refusal_number e in absurd (omega arith)
  of_unfinished (none m) u e = let z : ◌≡◌ {A = ℕ} 22 26 = ap refusal_number e in absurd (omega arith)
  of_unfinished (unfinished t) u e = let same : t ≡ u = cc in ap unfinished same

-- so many steps before those of an outcome
outcome_after : (p : Plan) (k n : ℕ) (o : Outcome) → outcome_answer p (k + n) (after_steps k o) ≡ plus_steps k (outcome_answer p n o)
unfolding last_plus
outcome_after p k n (found t m) = refl
outcome_after p k n (none m) = refl
outcome_after p k n (unfinished t) = refl

module _ (p : Plan) (valid : valid_plan p ≡ true) where
  pub answers : (t n : ℕ) → 1 ≤ t → t ≤ p.top → fixed_point_answer p t n ≡ outcome_answer p n (iterate p t n)
  answers t n low high =
      let ranged : within 1 p.top t ≡ true = rw (le-leb 1 t low, le-leb t p.top high) in
      fixed_point_within p t n valid ranged

  module _ (t : ℕ) (low : 1 ≤ t) (high : t ≤ p.top) where
    converged : Converges p t
    converged = converges p valid t low high

    says : (n : ℕ) → fixed_point_answer p t n ≡ outcome_answer p n (iterate p t n)
    says n = answers t n low high

    resumes
        : (k n u : ℕ)
        → fixed_point_answer p t k ≡ refusal not_finished (u ∷ k ∷ [])
        → fixed_point_answer p t (k + n) ≡ plus_steps k (fixed_point_answer p u n)
    resumes k n u e =
        let stopped = of_unfinished p k (iterate p t k) u (sym (says k) ∙ e) in
        let there = converged.reached k u stopped in
        says (k + n)
        ∙ ap (outcome_answer p (k + n)) (converged.resumes k n u stopped)
        ∙ outcome_after p k n (iterate p u n)
        ∙ ap (plus_steps k) (sym (answers u n (le_trans low there.0) there.1))

    pub iterations : Iterations p p t
    iterations =
        record {
          finds = λ n u l. (
            λ e. (converged.finds n u l).0 (of_result p n (iterate p t n) u (steps_from p t) (sym (says n) ∙ e)),
            λ h. says n ∙ ap (outcome_answer p n) ((converged.finds n u l).1 h),
          );
          none_up_to_top = λ n l. (
            λ e. (converged.none_up_to_top n l).0 (of_none p n (iterate p t n) _ _ (steps_from p t) (sym (says n) ∙ e)),
            λ h. says n ∙ ap (outcome_answer p n) ((converged.none_up_to_top n l).1 h),
          );
          stops = λ n l. says n ∙ ap (outcome_answer p n) (converged.stops n l);
          bounded = converged.bounded;
          resumes = resumes;
        }

  -- an iteration that ended, by the least duration
  without_steps_lem : (n k : ℕ) (x : Bool) → without_steps (outcome_answer p n (cond x (found (least p) k) (none k))) ≡ cond x (result (least p)) (failing_at no_least p p.top)
  unfolding but_last
  without_steps_lem n k true = refl
  without_steps_lem n k false = refl

  pub agrees_with_least : AgreesWithLeast p p
  agrees_with_least n scratch enough long =
      ap without_steps
      (answers 1 n (le_refl 1) (top_positive p valid) ∙ ap (outcome_answer p n) (converges_least p valid n enough))
      ∙ without_steps_lem n (steps_from p 1) (leb (least p) p.top)
      ∙ sym (least-searched p scratch valid long)
