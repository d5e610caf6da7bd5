-- The nearest durations of plan K, from its bytes: at 120,000 ns, in the gap between its spans, 110,000 and 142,000.
use Rattle.std.specs.Prelude.{◌≡◌, refl, true, [], ◌∷◌}
use Rattle.std.proofs.Common.{sym, ap, ◌∙◌, arith}
use Rattle.std.proofs.Math.Option.{some}
use Rattle.cqf.specs.Bounded.{sum_to, max_to, elem, sublist}
use Rattle.cqf.specs.Plan.{Plan, no_plan, valid_plan}
use Rattle.cqf.specs.Ceil.{ceil_div}
use Rattle.cqf.specs.Port.{wire_bits}
use Rattle.cqf.specs.Widened.{widened}
use Rattle.cqf.specs.Condition.{begun, frames}
use Rattle.cqf.specs.Need.{largest_need, least_from}
use Rattle.cqf.proofs.laws.Few.{demand_in, largest_need_in, largest-few}
use Rattle.cqf.proofs.worked.K.{plan_k, few_k}
use Rattle.span_lists.specs.laws.Pieces.{upward_start, upward_next, upward_ends}
use Rattle.answers.specs.Answer.{result}
use Rattle.plan_reading.specs.Reading.{loose}
use Rattle.questions.specs.Nearest.{most_up_to, nearest_answer}
use Rattle.questions.specs.laws.Nearest.{lowered_start, lowered_next, lowered_ends, nearest-found}
use Rattle.sequences.specs.Calls.{load, after}
use Rattle.plan_k.specs.PlanK.{bytes_k, valid_k}
use Rattle.plan_k.specs.Spans.{tables_k}

valid : valid_plan plan_k ≡ true
valid = valid_k

-- what is needed at 110,000, at 110,001 and 120,000, and at 142,000
needs : (largest_need plan_k 110000 ≡ 92000) × (largest_need plan_k 110001 ≡ 142000) × (largest_need plan_k 120000 ≡ 142000) × (largest_need plan_k 142000 ≡ 142000)
unfolding plan_k no_plan largest_need_in max_to demand_in sum_to elem sublist frames begun widened ceil_div wire_bits
needs = (largest-few few_k 110000, largest-few few_k 110001, largest-few few_k 120000, largest-few few_k 142000)

below : most_up_to plan_k 120000 ≡ 110000
unfolding plan_k
below =
    lowered_ends plan_k valid
    (lowered_next plan_k valid (lowered_start plan_k 120000 (omega arith)) 110001 (omega arith) (omega arith) (omega (arith, needs.1)) 110000 refl)
    (omega (arith, needs.0))

above : least_from plan_k 120000 ≡ 142000
unfolding plan_k
above =
    upward_ends plan_k valid (rw needs.2 at (upward_next plan_k valid (upward_start plan_k valid 120000 (omega arith) (omega arith)) (omega (arith, needs.2))))
    (omega (arith, needs.3))

nearest_of_k : nearest_answer (after (load loose bytes_k ∷ [])) 120000 ≡ result (record { below = some 110000; above = some 142000 })
unfolding plan_k
nearest_of_k =
    ap (λ (p : Plan). nearest_answer p 120000) tables_k
    ∙ sym (nearest-found plan_k 120000 valid refl (sym below) (sym above) {below = some 110000} {above = some 142000} refl refl)
