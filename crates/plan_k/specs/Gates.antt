-- The gate control list of K, from its bytes, at 100,000 ns for queues 2 and 3; and the refusals in their order.
use Rattle.std.specs.Prelude.{◌≡◌, refl, List, [], ◌∷◌, ◌++◌, map, ℕ}
use Rattle.std.proofs.Common.{ap, ◌∙◌}
use Rattle.cqf.specs.Bounded.{sum_to, count_to, any_to, lowest, elem, sublist, tabulate}
use Rattle.cqf.specs.Plan.{Plan, no_plan, valid_plan}
use Rattle.cqf.specs.Ceil.{ceil_div}
use Rattle.cqf.specs.Port.{wire_bits, window, capacity, workload}
use Rattle.cqf.specs.Widened.{widened}
use Rattle.cqf.specs.Condition.{begun, frames}
use Rattle.cqf.proofs.laws.Few.{demand_in, fails_in, failing_in}
use Rattle.cqf.proofs.worked.K.{plan_k, few_k}
use Rattle.plan_reading.specs.Reading.{loose}
use Rattle.gate_lists.specs.GateList.{bit, both_closed, one_open, gate_cycle, gate_list, gate_list_bytes, list_bytes}
use Rattle.answers.specs.Answer.{Answer, result, refusal}
use Rattle.gate_writing.specs.Gates.{gates_answer, gates_leaves}
use Rattle.sequences.specs.Calls.{Call, load, after_from, after}
use Rattle.plan_k.specs.Few.{gates_few}
use Rattle.plan_k.specs.PlanK.{bytes_k, after_k, valid_k}

-- a field: tag, length, gate states, interval
entry : (states high middle low : ℕ) → List ℕ
entry states high middle low = 0x21 ∷ 0x00 ∷ 0x05 ∷ states ∷ 0x00 ∷ high ∷ middle ∷ low ∷ []

-- both closed for 1,000 ns, one open for 98,000, both closed for 1,000; first queue 2, then queue 3
list_k : List ℕ
list_k =
    entry 0xf3 0x00 0x03 0xe8
    ++ entry 0xf7 0x01 0x7e 0xd0
    ++ entry 0xf3 0x00 0x03 0xe8
    ++ entry 0xf3 0x00 0x03 0xe8
    ++ entry 0xfb 0x01 0x7e 0xd0
    ++ entry 0xf3 0x00 0x03 0xe8

-- a buffer of so many bytes
room : ℕ → List ℕ
room n = tabulate n (λ i. 0xaa)

-- 48 bytes are written
answer_k : gates_answer plan_k 100000 2 3 (room 50) ≡ result 48
unfolding room tabulate gate_list_bytes gate_list gate_cycle one_open both_closed bit list_bytes plan_k no_plan failing_in count_to fails_in any_to elem sublist capacity window workload demand_in sum_to frames begun widened ceil_div wire_bits
answer_k = gates_few few_k valid_k 100000 2 3 (room 50)

-- a plan's guard band alone says what the list is
listed : (p : Plan) → p.guard ≡ 1000 → gates_answer p 100000 2 3 (room 50) ≡ result 48 → gates_leaves p 100000 2 3 (room 50) ≡ list_k ++ (0xaa ∷ 0xaa ∷ [])
unfolding entry list_k room tabulate gates_leaves gate_list_bytes gate_list gate_cycle one_open both_closed bit list_bytes
listed p guard answer = rw (answer, guard)

-- what is left in a buffer of 50 bytes: the last two remain
gates_k : gates_leaves (after (load loose bytes_k ∷ [])) 100000 2 3 (room 50) ≡ list_k ++ (0xaa ∷ 0xaa ∷ [])
unfolding plan_k
gates_k = ap (λ p. gates_leaves p 100000 2 3 (room 50)) after_k ∙ listed plan_k refl answer_k

-- what is asked after some calls, for a buffer of so many bytes
record Asked : Type 0 where
  calls : List Call
  duration : ℕ
  even : ℕ
  odd : ℕ
  bytes : ℕ

abbrev ask : List Call → (duration even odd bytes : ℕ) → Asked
ask calls duration even odd bytes = record { calls = calls; duration = duration; even = even; odd = odd; bytes = bytes }

abbrev answer_to : Asked → Answer ℕ
answer_to a = gates_answer (after a.calls) a.duration a.even a.odd (room a.bytes)

-- no plan is held
none_held : gates_answer (after []) 0 8 8 (room 0) ≡ refusal 20 (0 ∷ [])
unfolding gates_answer after after_from no_plan valid_plan
none_held = refl

-- 20, 10, 21, 18, then 13: in each row stands all that a later row refuses
ordered
    : (let k = load loose bytes_k ∷ [] in
    map answer_to
    (ask [] 0 8 8 0
    ∷ ask k 0 8 8 0
    ∷ ask k 1000001 8 8 0
    ∷ ask k 71999 8 8 0
    ∷ ask k 100000 8 3 0
    ∷ ask k 100000 2 8 0
    ∷ ask k 100000 2 2 0
    ∷ ask k 100000 2 3 47
    ∷ ask k 100000 2 3 48
    ∷ []))
    ≡ refusal 20 (0 ∷ [])
    ∷ refusal 10 (0 ∷ [])
    ∷ refusal 10 (0 ∷ [])
    ∷ refusal 21 (1 ∷ 1 ∷ [])
    ∷ refusal 18 (0 ∷ [])
    ∷ refusal 18 (0 ∷ [])
    ∷ refusal 18 (0 ∷ [])
    ∷ refusal 13 (48 ∷ [])
    ∷ result 48
    ∷ []
unfolding room tabulate gate_list_bytes gate_list gate_cycle one_open both_closed bit list_bytes plan_k no_plan lowest failing_in count_to fails_in any_to elem sublist capacity window workload demand_in sum_to frames begun widened ceil_div wire_bits
ordered = simp (none_held, after_k, gates_few few_k valid_k)
