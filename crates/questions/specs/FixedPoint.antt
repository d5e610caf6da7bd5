-- The fixed-point iteration as a question: what so many steps from a start answer, for any held plan and any numbers.
use Rattle.std.specs.Prelude.{ℕ, [], ◌∷◌}
use Rattle.cqf.specs.Plan.{Plan, valid_plan}
use Rattle.cqf.specs.Condition.{failing, lowest_failing}
use Rattle.cqf.specs.FixedPoint.{Outcome, found, none, unfinished, iterate}
use Rattle.answers.specs.Answer.{Answer, result, refusal}
use Rattle.answers.specs.Refusals.{no_least, not_finished}
use Rattle.questions.specs.Outcome.{asked}

-- a duration, and the steps that were used
pub record FixedPoint : Type 0 where
  pub duration : ℕ
  pub steps : ℕ

-- The outcome of so many steps as an answer: the duration found; 22 with the lowest port that fails at top and how many do; 26 with
-- the duration reached. Each says last how many steps were used.
abbrev pub outcome_answer : Plan → (steps : ℕ) → Outcome → Answer FixedPoint
outcome_answer p steps (found t n) = result (record { duration = t; steps = n })
outcome_answer p steps (none n) = refusal no_least (lowest_failing p p.top ∷ failing p p.top ∷ n ∷ [])
outcome_answer p steps (unfinished t) = refusal not_finished (t ∷ steps ∷ [])

-- 20, then 10 for a start outside 1 to top, then the outcome
unfoldable pub fixed_point_answer : Plan → (start steps : ℕ) → Answer FixedPoint
unfolding valid_plan iterate failing lowest_failing
fixed_point_answer p start steps = asked p start (outcome_answer p steps (iterate p start steps))
