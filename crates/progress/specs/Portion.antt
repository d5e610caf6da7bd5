-- How far an iteration from 1 ns has come.
use Rattle.std.specs.Prelude.{◌≡◌, [], ◌∷◌, true, ℕ}
use Rattle.cqf.specs.Plan.{Plan, valid_plan}
use Rattle.answers.specs.Answer.{refusal}
use Rattle.answers.specs.Refusals.{not_finished}
use Rattle.questions.specs.FixedPoint.{fixed_point_answer}

-- the steps of a portion
abbrev pub portion_steps : ℕ
portion_steps = 16

-- so many steps from 1 ns on have come to this duration, and not to an end
pub record Reached (p : Plan) (at used : ℕ) : Type 0 where
  pub valid : valid_plan p ≡ true
  pub stopped : fixed_point_answer p 1 used ≡ refusal not_finished (at ∷ used ∷ [])
