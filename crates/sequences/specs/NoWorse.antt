-- What the answers of one planner lose nothing by against those of another: the durations that the plain question accepts, and the
-- durations that the two searches give.
use Rattle.std.specs.Prelude.{◌≡◌, List, ℕ, ◌≤◌, length}
use Rattle.cqf.specs.Limits.{port_slots}
use Rattle.cqf.specs.Plan.{Plan}
use Rattle.answers.specs.Answer.{Answer, result}
use Rattle.questions.specs.Outcome.{check_answer, least_answer, margin_safe_answer}

-- the answer of a search gives a duration, of at most T
pub record GivesWithin (T : ℕ) (answer : Answer ℕ) : Type 0 where
  pub duration : ℕ
  pub is : answer ≡ result duration
  pub within : duration ≤ T

-- where a search gives the first a duration, it gives the second one that is no larger; each has a scratch of its own, of at least
-- 64 numbers
abbrev pub SearchNoWorse : (Plan → List ℕ → Answer ℕ) → (second first : Plan) → Type 0
SearchNoWorse answer second first =
    (scratch other : List ℕ) (T : ℕ)
    → port_slots ≤ length scratch
    → port_slots ≤ length other
    → answer first scratch ≡ result T
    → GivesWithin T (answer second other)

-- each duration that the plain question accepts for the first it accepts for the second; so too the two searches
pub record AnswersNoWorse (second first : Plan) : Type 0 where
  pub durations : (T : ℕ) → check_answer first T ≡ result tt → check_answer second T ≡ result tt
  pub leasts : SearchNoWorse least_answer second first
  pub margin_safes : SearchNoWorse margin_safe_answer second first
