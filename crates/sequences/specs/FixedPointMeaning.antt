-- What an answer of the fixed-point iteration means, of the plan held after every sequence of calls.
use Rattle.std.specs.Prelude.{◌≡◌, ◌↔◌, [], ◌∷◌, false, ℕ, ◌+◌, ◌≤◌, ◌<◌, get_or}
use Rattle.cqf.specs.Plan.{Plan}
use Rattle.cqf.specs.Condition.{admissible, failing, lowest_failing}
use Rattle.cqf.specs.FixedPoint.{visited, steps_from, most_steps, LeastAdmissible}
use Rattle.answers.specs.Answer.{Answer, result, refusal}
use Rattle.questions.specs.FixedPoint.{FixedPoint, fixed_point_answer}
use Rattle.sequences.specs.Iterations.{plus_steps}
use Rattle.sequences.specs.Meaning.{OfHeld}

-- An answer to so many steps from t, by what it is. The iteration has a length of its own, at most the bound of document 02. With so
-- many steps or more the answer is the least admissible duration from t on, or that there is none up to top, and says that length;
-- with fewer it is the duration that the next step would look at, and continued from there it gives what a single one gives.
pub record StepsMean (p : Plan) (t steps : ℕ) (Is : Answer FixedPoint → Type 0) : Type 0 where
  pub finds
      : steps_from p t ≤ steps
      → (u : ℕ)
      → Is (result (record { duration = u; steps = steps_from p t })) ↔ LeastAdmissible p t u
  pub none_up_to_top
      : steps_from p t ≤ steps
      → Is (refusal 22 (lowest_failing p p.top ∷ failing p p.top ∷ steps_from p t ∷ []))
      ↔ ((u : ℕ) → t ≤ u → u ≤ p.top → admissible p u ≡ false)
  pub stops : steps < steps_from p t → Is (refusal 26 (get_or (visited p t) steps 0 ∷ steps ∷ []))
  pub resumes
      : (u : ℕ)
      → Is (refusal 26 (u ∷ steps ∷ []))
      → (n : ℕ)
      → fixed_point_answer p t (steps + n) ≡ plus_steps steps (fixed_point_answer p u n)
  pub bounded : steps_from p t ≤ most_steps p

-- of a start from 1 to top
abbrev pub StepsMeanHeld : Plan → (start steps : ℕ) → (Answer FixedPoint → Type 0) → Type 0
StepsMeanHeld tables start steps Is = OfHeld tables (λ p. 1 ≤ start → start ≤ p.top → StepsMean p start steps Is)

abbrev pub FixedPointMeans : Plan → (start steps : ℕ) → Answer FixedPoint → Type 0
FixedPointMeans tables start steps answer = StepsMeanHeld tables start steps (λ a. answer ≡ a)
