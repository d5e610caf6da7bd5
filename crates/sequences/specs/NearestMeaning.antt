-- What the answer that names the nearest durations means, of the plan held after every sequence of calls.
use Rattle.std.specs.Prelude.{◌≡◌, true, false, ℕ, ◌≤◌, ◌<◌}
use Rattle.std.proofs.Math.Option.{Option, none, some}
use Rattle.cqf.specs.Plan.{Plan}
use Rattle.cqf.specs.Condition.{admissible}
use Rattle.cqf.specs.FixedPoint.{LeastAdmissible}
use Rattle.answers.specs.Answer.{Answer, result}
use Rattle.questions.specs.Nearest.{Nearest, nearest_answer}
use Rattle.sequences.specs.Meaning.{OfHeld}

-- t is the largest admissible duration up to T
pub record LargestAdmissible (p : Plan) (T t : ℕ) : Type 0 where
  pub low : 1 ≤ t
  pub upto : t ≤ T
  pub good : admissible p t ≡ true
  pub last : (u : ℕ) → t < u → u ≤ T → admissible p u ≡ false

-- none below means that no duration from 1 to T is admissible, none above that none from T to top is
abbrev pub Below : Plan → (T : ℕ) → Option ℕ → Type 0
Below p T none = (u : ℕ) → 1 ≤ u → u ≤ T → admissible p u ≡ false
Below p T (some t) = LargestAdmissible p T t

abbrev pub Above : Plan → (T : ℕ) → Option ℕ → Type 0
Above p T none = (u : ℕ) → T ≤ u → u ≤ p.top → admissible p u ≡ false
Above p T (some t) = LeastAdmissible p T t

-- An answer to the question for the nearest durations at T, by what it is. It names the largest admissible duration up to T and the
-- least one from T on, or says of either that there is none. Of an admissible T both are T.
pub record Neighbours (p : Plan) (T : ℕ) (Is : Answer Nearest → Type 0) : Type 0 where
  pub nearest : Nearest
  pub told : Is (result nearest)
  pub below : Below p T nearest.below
  pub above : Above p T nearest.above
  pub itself : admissible p T ≡ true → (nearest.below ≡ some T) × (nearest.above ≡ some T)

-- of a T from 1 to the top of that plan
abbrev pub NearestMeansHeld : Plan → (T : ℕ) → (Answer Nearest → Type 0) → Type 0
NearestMeansHeld tables T Is = OfHeld tables (λ p. 1 ≤ T → T ≤ p.top → Neighbours p T Is)

abbrev pub NearestMeans : Plan → (T : ℕ) → Answer Nearest → Type 0
NearestMeans tables T answer = NearestMeansHeld tables T (λ a. answer ≡ a)
