-- What the question for the nearest durations answers, for any held plan and any duration. Tables that are not valid count as no
-- plan held (refusal 20).
use Rattle.std.specs.Prelude.{Option as Neighbour, Some, None, Result, Ok, Err, ℕ, zero, suc, Bool, true, false, cond, [], ◌∷◌}
use Rattle.std.proofs.Math.Option.{Option, none, some}
use Rattle.cqf.specs.Bounded.{within}
use Rattle.cqf.specs.Plan.{Plan, valid_plan}
use Rattle.cqf.specs.Condition.{admissible}
use Rattle.cqf.specs.Need.{least_from}
use Rattle.answers.specs.Answer.{Answer, result, refusal}
use Rattle.answers.specs.Refusals.{bad_duration, no_plan_held}
use Rattle.questions.specs.Outcome.{asked}
use Rattle.questions.specs.declared.nearest.Nearest.{Nearest as Neighbours}
use Rattle.questions.specs.declared.nearest.NearestRefusal.{NearestRefusal}

-- the largest number from 1 to n that passes the test, or 0 where none does
unfoldable pub largest_up_to : (ℕ → Bool) → ℕ → ℕ
largest_up_to good zero = zero
largest_up_to good (suc n) = elim (good (suc n)) [ true ↦ suc n | false ↦ largest_up_to good n ]

-- the largest admissible duration up to T, or 0 where there is none
unfoldable pub most_up_to : Plan → (T : ℕ) → ℕ
unfolding largest_up_to admissible
most_up_to p T = largest_up_to (admissible p) T

-- a duration from 1 to top; any other number stands for none
abbrev pub duration_in : (top t : ℕ) → Option ℕ
duration_in top t = cond (within 1 top t) (some t) none

-- the nearest admissible durations: the largest up to T, and the least from T on
pub record Nearest : Type 0 where
  pub below : Option ℕ
  pub above : Option ℕ

unfoldable pub nearest : Plan → (T : ℕ) → Nearest
unfolding most_up_to least_from
nearest p T = record { below = duration_in p.top (most_up_to p T); above = duration_in p.top (least_from p T) }

-- 20, 10, then both
unfoldable pub nearest_answer : Plan → (T : ℕ) → Answer Nearest
unfolding valid_plan nearest
nearest_answer p T = asked p T (result (nearest p T))

-- the number and values for each case of the code's answer
abbrev pub neighbour_of : Neighbour ℕ → Option ℕ
neighbour_of (Some t) = some t
neighbour_of None = none

abbrev pub nearest_of : Result Neighbours NearestRefusal → Answer Nearest
nearest_of (Ok n) = result (record { below = neighbour_of n.below; above = neighbour_of n.above })
nearest_of (Err NearestRefusal.NoPlan) = refusal no_plan_held (0 ∷ [])
nearest_of (Err NearestRefusal.BadDuration) = refusal bad_duration (0 ∷ [])
