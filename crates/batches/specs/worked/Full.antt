-- A plan whose iteration takes 40 steps, placed eight times: the last of them ends with turn 24 and not before.
use Rattle.std.specs.Prelude.{◌≡◌, refl, List, [], ◌∷◌, true, ℕ, ◌-◌, set}
use Rattle.std.proofs.Common.{sym, ap, ap₂, ◌∙◌}
use Rattle.cqf.specs.Bounded.{sum_to, max_to, count_to, any_to, all_to, lowest, elem, distinct, every, sublist}
use Rattle.cqf.specs.Plan.{Plan, no_plan, valid_plan}
use Rattle.cqf.specs.Ceil.{ceil_div}
use Rattle.cqf.specs.Port.{wire_bits, window, capacity, workload}
use Rattle.cqf.specs.Widened.{widened}
use Rattle.cqf.specs.Condition.{begun, frames, failing, lowest_failing}
use Rattle.cqf.specs.FixedPoint.{steps_from, none, iterate}
use Rattle.cqf.proofs.laws.Prefix.{blank_from}
use Rattle.cqf.proofs.laws.Few.{Few, few, few_of, demand_in, fails_in, failing_in, largest_need_in, failing-few, lowest-few}
use Rattle.cqf.proofs.laws.FewSteps.{iterate_by, iterate-few}
use Rattle.plan.specs.Bytes.{number2, number4, size_at, whole_at, value_at, numbers2}
use Rattle.plan.specs.Field.{route_ports, route_in, value_in, kind_by, field_in, field_at, repeats}
use Rattle.plan_reading.specs.Store.{store, store_all}
use Rattle.plan_reading.specs.Draft.{blank, added}
use Rattle.plan_reading.specs.Reading.{step_at, names_absent, jitter_absent, extra_absent, first_from, first_absent, closing, read_from, read_as_of, loose, accepted}
use Rattle.plan_reading.specs.results.StrictTheorem.{read_loosely}
use Rattle.plan_reading.specs.laws.validity.Valid.{accepted_valid}
use Rattle.answers.specs.Answer.{refusal}
use Rattle.questions.specs.FixedPoint.{outcome_answer, fixed_point_answer}
use Rattle.batches.specs.Slot.{answered, is_pending}
use Rattle.batches.specs.Batch.{slot_at}
use Rattle.batches.specs.Calls.{after}
use Rattle.batches.specs.Turns.{single_answer, most_turns}
use Rattle.batches.specs.laws.Slots.{answer_of, none_steps}
use Rattle.batches.specs.results.Sharp.{eight_times, sharp_before, sharp_then}

-- guard 1, top 40,000, a port of 1,000 Mbit/s and a flow of 105 bytes every 1,000 ns, which fill the port
unfoldable full : Plan
unfolding no_plan
full =
    record {
      guard = 1;
      top = 40000;
      clock = no_plan.clock;
      rates = set no_plan.rates 0 1000;
      blockings = no_plan.blockings;
      extras = no_plan.extras;
      periods = set no_plan.periods 0 1000;
      counts = set no_plan.counts 0 1;
      lengths = set no_plan.lengths 0 105;
      jitters = no_plan.jitters;
      hops = set no_plan.hops 0 1;
      routes = set no_plan.routes 0 1;
    }

unfoldable bytes_full : List ℕ
bytes_full =
    0x01 ∷ 0x00 ∷ 0x08 ∷ 0x00 ∷ 0x00 ∷ 0x00 ∷ 0x01 ∷ 0x00 ∷ 0x00 ∷ 0x9c ∷ 0x40
    ∷ 0x02 ∷ 0x00 ∷ 0x08 ∷ 0x00 ∷ 0x01 ∷ 0x00 ∷ 0x00 ∷ 0x03 ∷ 0xe8 ∷ 0x00 ∷ 0x00
    ∷ 0x03 ∷ 0x00 ∷ 0x0c ∷ 0x00 ∷ 0x01 ∷ 0x00 ∷ 0x00 ∷ 0x03 ∷ 0xe8 ∷ 0x00 ∷ 0x01 ∷ 0x00 ∷ 0x69 ∷ 0x00 ∷ 0x01
    ∷ []

reads_full : read_as_of loose bytes_full ≡ accepted full 1 1
unfolding bytes_full full no_plan read_as_of read_from blank step_at field_at field_in value_in kind_by number2 number4 size_at whole_at value_at numbers2 route_ports route_in repeats every distinct elem store_all store added closing first_from first_absent names_absent jitter_absent extra_absent
reads_full = refl

-- one port and one flow, in the first slots
few_full : Few 1 1 full
unfolding full no_plan few all_to every sublist blank_from
few_full = few_of 1 1 full refl

outcome_full : iterate full 1 40 ≡ none 40
unfolding full no_plan iterate_by largest_need_in max_to demand_in sum_to elem sublist frames begun widened ceil_div wire_bits
outcome_full = iterate-few few_full 1 40

failing_full : (lowest_failing full 40000 ≡ 1) × (failing full 40000 ≡ 1)
unfolding full no_plan lowest failing_in count_to fails_in any_to elem sublist capacity window workload demand_in sum_to frames begun widened ceil_div wire_bits
failing_full = (lowest-few few_full 40000, failing-few few_full 40000)

valid_full : valid_plan full ≡ true
valid_full = accepted_valid bytes_full full 1 1 (read_loosely loose bytes_full full 1 1 reads_full)

-- 40 steps, and with them 22 at port 1 alone
steps_full : steps_from full 1 ≡ 40
steps_full = none_steps full valid_full 40 40 outcome_full

answer_full : single_answer full ≡ refusal 22 (1 ∷ 1 ∷ 40 ∷ [])
unfolding full
answer_full =
    ap (fixed_point_answer full 1) steps_full
    ∙ answer_of full valid_full 40
    ∙ ap (outcome_answer full 40) outcome_full
    ∙ ap₂ (λ port count. refusal 22 (port ∷ count ∷ 40 ∷ [])) failing_full.0 failing_full.1

turns_full : most_turns full ≡ 24
unfolding most_turns ceil_div
turns_full = rw steps_full

-- pending after 23 turns, and answered after 24
last_full
    : (is_pending (slot_at (after (eight_times bytes_full 23)) 7) ≡ true)
    × (slot_at (after (eight_times bytes_full 24)) 7 ≡ answered (refusal 22 (1 ∷ 1 ∷ 40 ∷ [])))
last_full = (
  ap (λ n. is_pending (slot_at (after (eight_times bytes_full (n - 1))) 7)) (sym turns_full) ∙ sharp_before bytes_full full 1 1 reads_full,
  ap (λ n. slot_at (after (eight_times bytes_full n)) 7) (sym turns_full) ∙ sharp_then bytes_full full 1 1 reads_full ∙ ap answered answer_full,
)
