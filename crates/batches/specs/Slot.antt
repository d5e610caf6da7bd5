-- A slot of a batch (document 02: a place of the desk), and what a turn leaves in it.
use Rattle.std.specs.Prelude.{ℕ, ◌+◌, [], ◌∷◌, Bool, true, false, cond}
use Rattle.cqf.specs.Bounded.{within}
use Rattle.cqf.specs.Plan.{Plan, valid_plan}
use Rattle.cqf.specs.Condition.{failing, lowest_failing}
use Rattle.cqf.specs.FixedPoint.{Outcome, found, none, unfinished, after_steps, iterate}
use Rattle.answers.specs.Answer.{Answer, refusal}
use Rattle.answers.specs.Refusals.{bad_duration, no_plan_held}
use Rattle.questions.specs.FixedPoint.{FixedPoint, outcome_answer}

-- no plan; a plan whose iteration from 1 ns came to this duration in so many steps, and not to an end; or a plan's final answer
pub data Slot : Type 0 where
  vacant : Slot
  pending : (plan : Plan) (duration steps : ℕ) → Slot
  answered : (answer : Answer FixedPoint) → Slot

abbrev pub is_vacant : Slot → Bool
is_vacant vacant = true
is_vacant (pending p t n) = false
is_vacant (answered a) = false

abbrev pub is_pending : Slot → Bool
is_pending vacant = false
is_pending (pending p t n) = true
is_pending (answered a) = false

abbrev pub is_answered : Slot → Bool
is_answered vacant = false
is_answered (pending p t n) = false
is_answered (answered a) = true

-- the steps of a turn
abbrev pub turn_steps : ℕ
turn_steps = 16

-- a plan's slot by the outcome of so many steps from 1 ns on
abbrev pub slot_by : Plan → (steps : ℕ) → Outcome → Slot
slot_by p steps (found t n) = answered (outcome_answer p steps (found t n))
slot_by p steps (none n) = answered (outcome_answer p steps (none n))
slot_by p steps (unfinished t) = pending p t steps

-- A turn of a plan that came to t in n steps: as many as a turn has from there on. Tables that are not valid, or a t outside 1 to
-- top, which no call leaves, end with the answer of the iteration to them: 20, then 10.
unfoldable pub turned : Plan → (t n : ℕ) → Slot
unfolding valid_plan iterate failing lowest_failing
turned p t n =
    cond (valid_plan p)
    (cond (within 1 p.top t) (slot_by p (n + turn_steps) (after_steps n (iterate p t turn_steps))) (answered (refusal bad_duration (0 ∷ []))))
    (answered (refusal no_plan_held (0 ∷ [])))

-- a turn changes only a plan that is pending
abbrev pub advanced : Slot → Slot
advanced vacant = vacant
advanced (pending p t n) = turned p t n
advanced (answered a) = answered a
