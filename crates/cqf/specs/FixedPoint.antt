-- The fixed-point iteration for the least duration from a start on (document 02: the climb, by rounds). A step at a duration asks
-- for the largest need there. Where that is no more than the duration, the duration is the answer; where it is above top, there is
-- none; otherwise the need is the next duration.
use Rattle.std.specs.Prelude.{ℕ, zero, suc, ◌+◌, ◌-◌, ◌≤◌, ◌<◌, ◌≡◌, ◌↔◌, List, [], ◌∷◌, Bool, true, false, cond, ◌||◌, length, get_or, leb, ltb}
use Rattle.cqf.specs.Bounded.{sum_to}
use Rattle.cqf.specs.Limits.{flow_slots}
use Rattle.cqf.specs.Plan.{Plan, period_of, jitter_of, present}
use Rattle.cqf.specs.Ceil.{ceil_div}
use Rattle.cqf.specs.Widened.{widened}
use Rattle.cqf.specs.Condition.{admissible}
use Rattle.cqf.specs.Need.{largest_need, least_from}

-- the two ways in which a step at t is the last
abbrev pub settles : Plan → ℕ → Bool
settles p t = leb (largest_need p t) t

abbrev pub passes_top : Plan → ℕ → Bool
passes_top p t = ltb p.top (largest_need p t)

-- the durations of at most so many steps from t on, each the largest need at the one before, up to that of the last step
unfoldable pub visited_in : Plan → (most t : ℕ) → List ℕ
visited_in p zero t = []
visited_in p (suc n) t = t ∷ elim (settles p t || passes_top p t) [ true ↦ [] | false ↦ visited_in p n (largest_need p t) ]

-- all durations of the iteration from t: they rise and are at most top, so there are no more than top of them
unfoldable pub visited : Plan → ℕ → List ℕ
unfolding visited_in
visited p t = visited_in p p.top t

-- its length
unfoldable pub steps_from : Plan → ℕ → ℕ
unfolding visited
steps_from p t = length (visited p t)

-- What a number of steps gives: the duration found, or that there is none, with the steps used; or the duration reached.
pub data Outcome : Type 0 where
  found : (duration steps : ℕ) → Outcome
  none : (steps : ℕ) → Outcome
  unfinished : (duration : ℕ) → Outcome

-- the same with so many steps before it
abbrev pub after_steps : ℕ → Outcome → Outcome
after_steps k (found t n) = found t (k + n)
after_steps k (none n) = none (k + n)
after_steps k (unfinished t) = unfinished t

-- at most so many steps from t
unfoldable pub iterate : Plan → (t steps : ℕ) → Outcome
iterate p t zero = unfinished t
iterate p t (suc n) =
    elim (settles p t) [
      | true ↦ found t 1
      | false ↦ elim (passes_top p t) [ true ↦ none 1 | false ↦ after_steps 1 (iterate p (largest_need p t) n) ]
    ]

-- a duration up to top found in so many steps, or one above top for none
abbrev pub ended : Plan → (t steps : ℕ) → Outcome
ended p t n = cond (leb t p.top) (found t n) (none n)

-- the periods of flow f that begin after the first one, in what is counted at t
unfoldable pub later : Plan → ℕ → ℕ → ℕ
unfolding ceil_div widened
later p f t = cond (present p f) (ceil_div (widened p t + jitter_of p f) (period_of p f) - 1) 0

-- no iteration takes more steps: two, and one for each period after the first in what is counted at top
unfoldable pub most_steps : Plan → ℕ
unfolding later sum_to
most_steps p = 2 + sum_to flow_slots (λ f. later p f p.top)

-- u is the least admissible duration from t to top
pub record LeastAdmissible (p : Plan) (t u : ℕ) : Type 0 where
  pub from : t ≤ u
  pub within : u ≤ p.top
  pub good : admissible p u ≡ true
  pub first : (v : ℕ) → t ≤ v → v < u → admissible p v ≡ false

-- What the iteration from t is, for a valid plan and t from 1 to top.
pub record Converges (p : Plan) (t : ℕ) : Type 0 where
  -- with all of its steps or more it ends, after just its length: with the least admissible duration from t on, or none up to top
  pub ends : (n : ℕ) → steps_from p t ≤ n → iterate p t n ≡ ended p (least_from p t) (steps_from p t)
  pub finds : (n u : ℕ) → steps_from p t ≤ n → (iterate p t n ≡ found u (steps_from p t)) ↔ LeastAdmissible p t u
  pub none_up_to_top
      : (n : ℕ)
      → steps_from p t ≤ n
      → (iterate p t n ≡ none (steps_from p t)) ↔ ((u : ℕ) → t ≤ u → u ≤ p.top → admissible p u ≡ false)
  -- with fewer it stops at the duration that the next step would look at
  pub stops : (n : ℕ) → n < steps_from p t → iterate p t n ≡ unfinished (get_or (visited p t) n 0)
  pub reached : (n u : ℕ) → iterate p t n ≡ unfinished u → (t ≤ u) × (u ≤ p.top)
  -- and going on from there gives what a single one gives, whatever the split
  pub resumes : (a b u : ℕ) → iterate p t a ≡ unfinished u → iterate p t (a + b) ≡ after_steps a (iterate p u b)
  pub bounded : steps_from p t ≤ most_steps p
