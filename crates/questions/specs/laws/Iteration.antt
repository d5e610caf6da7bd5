-- The steps of the fixed-point iteration: what the loop keeps, and what it gives where it ends.
use Rattle.std.specs.Prelude.{◌≡◌, refl, true, ℕ, ◌+◌, ◌≤◌, ◌<◌}
use Rattle.std.proofs.Common.{sym, ap, ◌∙◌, arith, lt-ltb, le-ltb}
use Rattle.std.proofs.lemmas.Bool.{lt-leb}
use Rattle.cqf.specs.Plan.{Plan}
use Rattle.cqf.specs.Need.{largest_need}
use Rattle.cqf.specs.FixedPoint.{settles, found, none, unfinished, iterate}
use Rattle.cqf.proofs.laws.FixedPoint.{then_settled, then_over, then_rises}

-- so many of the steps were made, and t is reached
pub record Stepped (p : Plan) (start steps used t : ℕ) : Type 0 where
  pub first : 1 ≤ t
  pub within : t ≤ p.top
  pub some : used ≤ steps
  pub stopped : iterate p start used ≡ unfinished t

pub stepped_start : (p : Plan) (start steps : ℕ) → 1 ≤ start → start ≤ p.top → Stepped p start steps 0 start
unfolding iterate
stepped_start p start steps first within = record { first = first; within = within; some = omega arith; stopped = refl }

module _ {p : Plan} {start steps used t : ℕ} (s : Stepped p start steps used t) where
  -- there are no more
  pub steps_end : steps ≤ used → unfinished t ≡ iterate p start steps
  steps_end l = let all : used ≡ steps = omega (arith, s.some) in sym s.stopped ∙ ap (iterate p start) all

  module _ (less : used < steps) where
    -- t is found
    pub step_settles : settles p t ≡ true → found t (used + 1) ≡ iterate p start steps
    step_settles e = sym (then_settled p start used s.stopped less e)

    module _ (more : t < largest_need p t) where
      -- the need is above top
      pub step_exceeds : p.top < largest_need p t → none (used + 1) ≡ iterate p start steps
      step_exceeds above = sym (then_over p start used s.stopped less (lt-leb _ _ more) (lt-ltb _ _ above))

      -- it is the next duration
      pub step_rises : largest_need p t ≤ p.top → Stepped p start steps (used + 1) (largest_need p t)
      step_rises upto =
          record {
            first = omega arith;
            within = upto;
            some = omega arith;
            stopped = then_rises p start used s.stopped (lt-leb _ _ more) (le-ltb _ _ upto);
          }
