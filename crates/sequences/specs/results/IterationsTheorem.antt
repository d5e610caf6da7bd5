-- The theorems of the fixed-point iteration over sequences of calls: of the plan in the bytes of the last load in which the rules
-- find no refusal.
use Rattle.std.specs.Prelude.{◌≡◌, List, ℕ, ◌≤◌}
use Rattle.std.proofs.Common.{sym, subst, ◌∙◌}
use Rattle.std.proofs.Math.Option.{some}
use Rattle.cqf.specs.Plan.{Plan}
use Rattle.plan_reading.specs.Reading.{accepted, Mode, read_as_of}
use Rattle.plan_reading.specs.results.StrictTheorem.{read_loosely}
use Rattle.plan_reading.specs.laws.validity.Valid.{accepted_valid}
use Rattle.sequences.specs.Calls.{Call, after, held_bytes}
use Rattle.questions.specs.FixedPoint.{fixed_point_answer}
use Rattle.sequences.specs.FixedPointMeaning.{StepsMean, FixedPointMeans}
use Rattle.sequences.specs.Iterations.{Iterations, AgreesWithLeast}
use Rattle.sequences.specs.laws.Calls.{after_held}
use Rattle.sequences.specs.laws.Iterations.{iterations, agrees_with_least}

module _
    (calls : List Call) (mode : Mode) (bytes : List ℕ) (p : Plan) (ports flows : ℕ)
    (held : held_bytes calls ≡ some bytes)
    (reads : read_as_of mode bytes ≡ accepted p ports flows)
  where
    -- of every start from 1 to top
    pub held_iterations : (t : ℕ) → 1 ≤ t → t ≤ p.top → Iterations (after calls) p t
    held_iterations t low high =
        rw (after_held calls mode bytes held p ports flows reads) (iterations p (accepted_valid bytes p ports flows (read_loosely mode bytes p ports flows reads)) t low high)

    -- from 1 ns on
    pub held_agrees_with_least : AgreesWithLeast (after calls) p
    held_agrees_with_least =
        rw (after_held calls mode bytes held p ports flows reads) (agrees_with_least p (accepted_valid bytes p ports flows (read_loosely mode bytes p ports flows reads)))

-- what the answer to so many steps from a start means
pub fixed_point_means : (tables : Plan) (start steps : ℕ) → FixedPointMeans tables start steps (fixed_point_answer tables start steps)
fixed_point_means tables start steps calls mode bytes p ports flows left held reads low high =
    let same : tables ≡ p = left ∙ after_held calls mode bytes held p ports flows reads in
    let i = iterations p (accepted_valid bytes p ports flows (read_loosely mode bytes p ports flows reads)) start low high in
    subst (λ (q : Plan). StepsMean p start steps (λ a. fixed_point_answer q start steps ≡ a)) (sym same)
    record {
      finds = λ enough u. i.finds steps u enough;
      none_up_to_top = λ enough. i.none_up_to_top steps enough;
      stops = i.stops steps;
      resumes = λ u is n. i.resumes steps n u is;
      bounded = i.bounded;
    }
