-- The large-enough-cycle theorem: for every valid plan and every duration T from 1, T is admissible exactly when no
-- emission that keeps every contract leaves a frame unsent in any permitted cycles, and then every frame of every such emission is
-- on time in all of them. Where it is not admissible, one with its nominal instants in order leaves a frame unsent.
use Rattle.std.specs.Prelude.{◌≡◌, true, false, ℕ, ◌<◌}
use Rattle.std.proofs.Common.{sym, ◌∙◌}
use mathlib.Mathlib.Data.Bool.Basic.{eq-false_of_not-eq-true}
use Rattle.cqf.specs.Plan.{Plan, valid_plan}
use Rattle.cqf.specs.Condition.{admissible}
use Rattle.cqf.specs.LargeEnough.{Counterexample, LargeEnough}
use Rattle.cqf.proofs.laws.Places.{running≢stopped}
use Rattle.cqf.proofs.laws.Accepted.{goes_on, on_time}
use Rattle.cqf.proofs.laws.Refused.{counterexample, counterexample_ordered}

-- a duration with a counterexample is not admissible: the run of its emission would never stop
counterexample_refused : (p : Plan) → valid_plan p ≡ true → (T : ℕ) → 0 < T → Counterexample p T → admissible p T ≡ false
counterexample_refused p valid T long bad = eq-false_of_not-eq-true no
  where
    no : admissible p T ≡ true → ⊥
    no good =
        let end = goes_on p valid T long good bad.emission bad.keeps bad.cycles bad.permitted bad.overruns.cycle in
        running≢stopped end.0 (sym end.1 ∙ bad.overruns.unsent)

pub large_enough : (p : Plan) → valid_plan p ≡ true → (T : ℕ) → 0 < T → LargeEnough p T
large_enough p valid T long =
    record {
      refused = (counterexample p valid T long, counterexample_refused p valid T long);
      refused_in_order = λ bad. record { one = counterexample p valid T long bad; ordered = counterexample_ordered p valid T long bad };
      accepted = λ good e keeps cycles permitted f k _. on_time p valid T long good e keeps cycles permitted f k;
    }
