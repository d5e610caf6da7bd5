-- The numbers of an answer of the fixed-point iteration mean what the answer means.
use Rattle.std.specs.Prelude.{◌≡◌, [], ◌∷◌, ℕ, Result, Ok, Err}
use Rattle.std.proofs.Common.{sym, ap, ◌∙◌, arith}
use Rattle.cqf.specs.Plan.{Plan}
use Rattle.answers.specs.Answer.{Answer, result, refusal}
use Rattle.questions.specs.Answer.{fixed_point_of}
use Rattle.questions.specs.FixedPoint.{FixedPoint}
use Rattle.sequences.specs.FixedPointMeaning.{StepsMean, FixedPointMeans}
use Rattle.questions.specs.declared.iteration.FixedPointRefusal.{FixedPointRefusal}
use Rattle.questions.specs.declared.iteration.FixedPoint as declaredPoint
use Rattle.capi.specs.declared.FixedPointAnswerNumbers.{FixedPointAnswerNumbers}
use Rattle.capi.specs.Numbers.{steps_numbers}
use Rattle.capi.specs.Meaning.{StepsNumbersMean}

abbrev found : (u n : ℕ) → Answer FixedPoint
found u n = result (record { duration = u; steps = n })

abbrev none : (lowest count n : ℕ) → Answer FixedPoint
none lowest count n = refusal 22 (lowest ∷ count ∷ n ∷ [])

abbrev unfinished : (u n : ℕ) → Answer FixedPoint
unfinished u n = refusal 26 (u ∷ n ∷ [])

-- of what the iteration answers, equal numbers are equal answers
module _ {a b : FixedPointAnswerNumbers} (e : a ≡ b) where
  number : a.refusal ≡ b.refusal
  number = ap (λ (n : FixedPointAnswerNumbers). n.refusal) e

  one : a.first ≡ b.first
  one = ap (λ (n : FixedPointAnswerNumbers). n.first) e

  two : a.second ≡ b.second
  two = ap (λ (n : FixedPointAnswerNumbers). n.second) e

  last : a.steps ≡ b.steps
  last = ap (λ (n : FixedPointAnswerNumbers). n.steps) e

is_found : (x : Result declaredPoint.FixedPoint FixedPointRefusal) (u n : ℕ) → steps_numbers (fixed_point_of x) ≡ steps_numbers (found u n) → fixed_point_of x ≡ found u n
is_found (Ok r) u n e = λ i. found (one e i) (last e i)
is_found (Err FixedPointRefusal.NoPlan) u n e = absurd (omega (arith, number e))
is_found (Err FixedPointRefusal.BadStart) u n e = absurd (omega (arith, number e))
is_found (Err (FixedPointRefusal.Failing p c s)) u n e = absurd (omega (arith, number e))
is_found (Err (FixedPointRefusal.Unfinished d s)) u n e = absurd (omega (arith, number e))

is_none : (x : Result declaredPoint.FixedPoint FixedPointRefusal) (l c n : ℕ) → steps_numbers (fixed_point_of x) ≡ steps_numbers (none l c n) → fixed_point_of x ≡ none l c n
is_none (Ok r) l c n e = absurd (omega (arith, number e))
is_none (Err FixedPointRefusal.NoPlan) l c n e = absurd (omega (arith, number e))
is_none (Err FixedPointRefusal.BadStart) l c n e = absurd (omega (arith, number e))
is_none (Err (FixedPointRefusal.Failing p k s)) l c n e = λ i. none (one e i) (two e i) (last e i)
is_none (Err (FixedPointRefusal.Unfinished d s)) l c n e = absurd (omega (arith, number e))

is_unfinished : (x : Result declaredPoint.FixedPoint FixedPointRefusal) (u n : ℕ) → steps_numbers (fixed_point_of x) ≡ steps_numbers (unfinished u n) → fixed_point_of x ≡ unfinished u n
is_unfinished (Ok r) u n e = absurd (omega (arith, number e))
is_unfinished (Err FixedPointRefusal.NoPlan) u n e = absurd (omega (arith, number e))
is_unfinished (Err FixedPointRefusal.BadStart) u n e = absurd (omega (arith, number e))
is_unfinished (Err (FixedPointRefusal.Failing p c s)) u n e = absurd (omega (arith, number e))
is_unfinished (Err (FixedPointRefusal.Unfinished d s)) u n e = λ i. unfinished (one e i) (last e i)

module _ (answer : Result declaredPoint.FixedPoint FixedPointRefusal) (numbers : FixedPointAnswerNumbers) (is : numbers ≡ steps_numbers (fixed_point_of answer)) where
  to : (a : Answer FixedPoint) → fixed_point_of answer ≡ a → numbers ≡ steps_numbers a
  to a e = is ∙ ap steps_numbers e

  steps_mean : {p : Plan} {t steps : ℕ} → StepsMean p t steps (λ a. fixed_point_of answer ≡ a) → StepsMean p t steps (λ a. numbers ≡ steps_numbers a)
  steps_mean m =
      record {
        finds = λ enough u. (
          λ e. (m.finds enough u).0 (is_found answer _ _ (sym is ∙ e)),
          λ l. to _ ((m.finds enough u).1 l),
        );
        none_up_to_top = λ enough. (
          λ e. (m.none_up_to_top enough).0 (is_none answer _ _ _ (sym is ∙ e)),
          λ l. to _ ((m.none_up_to_top enough).1 l),
        );
        stops = λ less. to _ (m.stops less);
        resumes = λ u e. m.resumes u (is_unfinished answer _ _ (sym is ∙ e));
        bounded = m.bounded;
      }

  pub steps_numbers_mean : (p : Plan) (start steps : ℕ) → FixedPointMeans p start steps (fixed_point_of answer) → StepsNumbersMean p start steps numbers
  steps_numbers_mean p start steps means calls mode bytes q ports flows left held read low high =
      steps_mean (means calls mode bytes q ports flows left held read low high)
