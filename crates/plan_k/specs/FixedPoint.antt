-- The fixed-point iteration of plan K, from its bytes: it takes two steps from 1 ns.
use Rattle.std.specs.Prelude.{◌≡◌, [], ◌∷◌, map, ℕ}
use Rattle.cqf.specs.Bounded.{max_to, sum_to, elem, sublist}
use Rattle.cqf.specs.Plan.{no_plan}
use Rattle.cqf.specs.Ceil.{ceil_div}
use Rattle.cqf.specs.Port.{wire_bits}
use Rattle.cqf.specs.Widened.{widened}
use Rattle.cqf.specs.Condition.{begun, frames}
use Rattle.cqf.proofs.laws.Few.{demand_in, largest_need_in}
use Rattle.cqf.proofs.laws.FewSteps.{iterate_by}
use Rattle.cqf.proofs.worked.K.{plan_k, few_k}
use Rattle.plan_reading.specs.Reading.{loose}
use Rattle.answers.specs.Answer.{result, refusal}
use Rattle.questions.specs.FixedPoint.{fixed_point_answer}
use Rattle.sequences.specs.Calls.{load, after}
use Rattle.plan_k.specs.Few.{steps_answer_few}
use Rattle.plan_k.specs.PlanK.{bytes_k, after_k, valid_k}

-- by 0, 1, 2 and 9 steps from 1 ns
by_steps_k
    : map (λ (steps : ℕ). fixed_point_answer (after (load loose bytes_k ∷ [])) 1 steps) (0 ∷ 1 ∷ 2 ∷ 9 ∷ [])
    ≡ refusal 26 (1 ∷ 0 ∷ [])
    ∷ refusal 26 (72000 ∷ 1 ∷ [])
    ∷ result (record { duration = 72000; steps = 2 })
    ∷ result (record { duration = 72000; steps = 2 })
    ∷ []
unfolding plan_k iterate_by largest_need_in max_to no_plan demand_in sum_to elem sublist frames begun widened ceil_div wire_bits
by_steps_k = simp (after_k, steps_answer_few few_k valid_k)

-- from an admissible duration, from the ends of the gap, and from starts outside 1 to top
from_starts_k
    : map (λ (start : ℕ). fixed_point_answer (after (load loose bytes_k ∷ [])) start 9) (72001 ∷ 110000 ∷ 110001 ∷ 142000 ∷ 0 ∷ 1000001 ∷ [])
    ≡ result (record { duration = 72001; steps = 1 })
    ∷ result (record { duration = 110000; steps = 1 })
    ∷ result (record { duration = 142000; steps = 2 })
    ∷ result (record { duration = 142000; steps = 1 })
    ∷ refusal 10 (0 ∷ [])
    ∷ refusal 10 (0 ∷ [])
    ∷ []
unfolding plan_k iterate_by largest_need_in max_to no_plan demand_in sum_to elem sublist frames begun widened ceil_div wire_bits
from_starts_k = simp (after_k, steps_answer_few few_k valid_k)
