-- Plan K with numbers for its clocks, from its bytes.
use Rattle.std.specs.Prelude.{◌≡◌, refl, List, [], ◌∷◌, ◌++◌, map, ℕ, pos, negsuc}
use Rattle.std.proofs.Common.{ap, ◌∙◌}
use Rattle.cqf.specs.Bounded.{sum_to, count_to, any_to, all_to, lowest, elem, distinct, every, sublist}
use Rattle.cqf.specs.Plan.{no_plan, valid_port, valid_flow}
use Rattle.cqf.specs.Ceil.{ceil_div}
use Rattle.cqf.specs.Port.{wire_bits, window, capacity, workload}
use Rattle.cqf.specs.Widened.{widened}
use Rattle.cqf.specs.Condition.{begun, frames}
use Rattle.cqf.proofs.laws.Few.{demand_in, fails_in, failing_in}
use Rattle.cqf.proofs.laws.FewValid.{valid_in, valid_few}
use Rattle.cqf.proofs.worked.K.{plan_k}
use Rattle.cqf.proofs.worked.Clock.{plan_kc, few_kc}
use Rattle.plan.specs.Bytes.{number2, number4, size_at, whole_at, value_at, numbers2}
use Rattle.plan.specs.Layout.{form_by}
use Rattle.plan.specs.Field.{route_ports, route_in, value_in, kind_by, field_in, field_at, repeats}
use Rattle.plan_reading.specs.Store.{store, store_all}
use Rattle.plan_reading.specs.Draft.{blank, added}
use Rattle.plan_reading.specs.Reading.{step_at, names_absent, jitter_absent, extra_absent, first_from, first_absent, closing, read_from, read_as_of, read_plan, loose, accepted, absent_in, read_form}
use Rattle.answers.specs.Answer.{result, refusal}
use Rattle.loading.specs.Outcome.{load_answer, load_leaves}
use Rattle.sequences.specs.Calls.{load, after_from, after}
use Rattle.plan_k.specs.PlanK.{bytes_k, Line, at, fails-one, lines_of, lines-few, table}
use Rattle.plan_k.specs.Extra.{extra}
use Rattle.plan_k.specs.Jitter.{jitter, late1}

-- the field that says the three numbers, by the last two bytes of drift and of timing jitter and the last three of the
-- synchronization error
unfoldable clock : (d₁ d₂ t₁ t₂ s₁ s₂ s₃ : ℕ) → List ℕ
clock d₁ d₂ t₁ t₂ s₁ s₂ s₃ =
    0x06 ∷ 0x00 ∷ 0x0c ∷ 0x00 ∷ 0x00 ∷ d₁ ∷ d₂ ∷ 0x00 ∷ 0x00 ∷ t₁ ∷ t₂ ∷ 0x00 ∷ s₁ ∷ s₂ ∷ s₃ ∷ []

-- 100 parts per million, 2 ns and 1,000 ns
unfoldable apart : List ℕ
unfolding clock
apart = clock 0x00 0x64 0x00 0x02 0x00 0x03 0xe8

-- a synchronization error of 5,000 ns alone, and the largest drift and timing jitter without one
unfoldable error_alone : List ℕ
unfolding clock
error_alone = clock 0x00 0x00 0x00 0x00 0x00 0x13 0x88

unfoldable drift_alone : List ℕ
unfolding clock
drift_alone = clock 0x03 0xe8 0x03 0xe8 0x00 0x00 0x00

-- a field that says 0 three times leaves K as it is, with one port and two flows
read_zero : read_plan (clock 0x00 0x00 0x00 0x00 0x00 0x00 0x00 ++ bytes_k) ≡ accepted plan_k 1 2
unfolding clock bytes_k plan_k no_plan read_plan read_as_of read_form form_by read_from blank step_at field_at field_in value_in kind_by number2 number4 size_at whole_at value_at numbers2 route_ports route_in repeats every distinct elem store_all store added closing first_from first_absent names_absent absent_in jitter_absent extra_absent
read_zero = refl

-- with the first field the tables are those that are worked out in cqf
read_apart : read_plan (apart ++ bytes_k) ≡ accepted (plan_kc 100 2 1000 0 0) 1 2
unfolding apart clock bytes_k plan_kc plan_k no_plan read_plan read_as_of read_form form_by read_from blank step_at field_at field_in value_in kind_by number2 number4 size_at whole_at value_at numbers2 route_ports route_in repeats every distinct elem store_all store added closing first_from first_absent names_absent absent_in jitter_absent extra_absent
read_apart = refl

-- The first field: frames are counted over 110,000 ns at 109,987 and over 110,001 ns at 109,988, so that the gap begins there. The
-- least duration and the margin-safe one stay.
table_apart : List Line
table_apart =
    at 71999 fails-one (result (negsuc 99))
    ∷ at 72000 (result tt) (result (pos 0))
    ∷ at 99988 (result tt) (result (pos 2798800))
    ∷ at 99989 (result tt) (result (pos 798900))
    ∷ at 109987 (result tt) (result (pos 1798700))
    ∷ at 109988 fails-one (result (negsuc 3201199))
    ∷ at 141999 fails-one (result (negsuc 99))
    ∷ at 142000 (result tt) (result (pos 0))
    ∷ []

table_of_apart : lines_of (after (load loose (apart ++ bytes_k) ∷ [])) table_apart ≡ table_apart
unfolding apart clock bytes_k plan_kc plan_k table_apart after after_from load_leaves no_plan read_plan read_as_of read_form form_by read_from blank step_at field_at field_in value_in kind_by number2 number4 size_at whole_at value_at numbers2 route_ports route_in repeats every distinct elem store_all store added closing first_from first_absent names_absent absent_in jitter_absent extra_absent valid_in valid_port valid_flow all_to any_to sublist lowest failing_in count_to fails_in capacity window workload demand_in sum_to frames begun widened ceil_div wire_bits
table_of_apart =
    let held : after (load loose (apart ++ bytes_k) ∷ []) ≡ plan_kc 100 2 1000 0 0 = refl in
    ap (λ p. lines_of p table_apart) held ∙ lines-few (few_kc 100 2 1000 0 0) (valid_few (few_kc 100 2 1000 0 0)) table_apart

-- where one of the two lengths is the duration itself, K's own table
table_of_error_alone : lines_of (after (load loose (error_alone ++ bytes_k) ∷ [])) table ≡ table
unfolding error_alone clock bytes_k plan_kc plan_k table after after_from load_leaves no_plan read_plan read_as_of read_form form_by read_from blank step_at field_at field_in value_in kind_by number2 number4 size_at whole_at value_at numbers2 route_ports route_in repeats every distinct elem store_all store added closing first_from first_absent names_absent absent_in jitter_absent extra_absent valid_in valid_port valid_flow all_to any_to sublist lowest failing_in count_to fails_in capacity window workload demand_in sum_to frames begun widened ceil_div wire_bits
table_of_error_alone =
    let held : after (load loose (error_alone ++ bytes_k) ∷ []) ≡ plan_kc 0 0 5000 0 0 = refl in
    ap (λ p. lines_of p table) held ∙ lines-few (few_kc 0 0 5000 0 0) (valid_few (few_kc 0 0 5000 0 0)) table

table_of_drift_alone : lines_of (after (load loose (drift_alone ++ bytes_k) ∷ [])) table ≡ table
unfolding drift_alone clock bytes_k plan_kc plan_k table after after_from load_leaves no_plan read_plan read_as_of read_form form_by read_from blank step_at field_at field_in value_in kind_by number2 number4 size_at whole_at value_at numbers2 route_ports route_in repeats every distinct elem store_all store added closing first_from first_absent names_absent absent_in jitter_absent extra_absent valid_in valid_port valid_flow all_to any_to sublist lowest failing_in count_to fails_in capacity window workload demand_in sum_to frames begun widened ceil_div wire_bits
table_of_drift_alone =
    let held : after (load loose (drift_alone ++ bytes_k) ∷ []) ≡ plan_kc 1000 1000 0 0 0 = refl in
    ap (λ p. lines_of p table) held ∙ lines-few (few_kc 1000 1000 0 0 0) (valid_few (few_kc 1000 1000 0 0 0)) table

-- the first field with 32 extra bytes at port 1 and 30,000 ns of jitter for flow 1
table_mixed : List Line
table_mixed =
    at 99679 fails-one (result (negsuc 99))
    ∷ at 99680 (result tt) (result (pos 0))
    ∷ at 109987 (result tt) (result (pos 1030700))
    ∷ at 109988 fails-one (result (negsuc 4225199))
    ∷ at 152239 fails-one (result (negsuc 99))
    ∷ at 152240 (result tt) (result (pos 0))
    ∷ at 169981 (result tt) (result (pos 1774100))
    ∷ at 169982 fails-one (result (negsuc 481799))
    ∷ at 174799 fails-one (result (negsuc 99))
    ∷ at 174800 (result tt) (result (pos 0))
    ∷ at 219976 (result tt) (result (pos 4517600))
    ∷ at 219977 fails-one (result (negsuc 738299))
    ∷ at 227359 fails-one (result (negsuc 99))
    ∷ at 227360 (result tt) (result (pos 0))
    ∷ []

table_of_mixed : lines_of (after (load loose (apart ++ extra 1 32 ++ late1 ++ bytes_k) ∷ [])) table_mixed ≡ table_mixed
unfolding apart clock extra late1 jitter bytes_k plan_kc plan_k table_mixed after after_from load_leaves no_plan read_plan read_as_of read_form form_by read_from blank step_at field_at field_in value_in kind_by number2 number4 size_at whole_at value_at numbers2 route_ports route_in repeats every distinct elem store_all store added closing first_from first_absent names_absent absent_in jitter_absent extra_absent valid_in valid_port valid_flow all_to any_to sublist lowest failing_in count_to fails_in capacity window workload demand_in sum_to frames begun widened ceil_div wire_bits
table_of_mixed =
    let held : after (load loose (apart ++ extra 1 32 ++ late1 ++ bytes_k) ∷ []) ≡ plan_kc 100 2 1000 32 30000 = refl in
    ap (λ p. lines_of p table_mixed) held ∙ lines-few (few_kc 100 2 1000 32 30000) (valid_few (few_kc 100 2 1000 32 30000)) table_mixed

-- 1,001 parts per million, 1,001 ns of timing jitter, and 1,000,001 ns of synchronization error; a second field after one that said
-- 0; each at its tag
refusals
    : map (load_answer loose)
    ((clock 0x03 0xe9 0x00 0x00 0x00 0x00 0x00 ++ bytes_k)
    ∷ (clock 0x00 0x00 0x03 0xe9 0x00 0x00 0x00 ++ bytes_k)
    ∷ (clock 0x00 0x00 0x00 0x00 0x0f 0x42 0x41 ++ bytes_k)
    ∷ (clock 0x00 0x00 0x00 0x00 0x00 0x00 0x00 ++ apart ++ bytes_k)
    ∷ [])
    ≡ refusal 5 (0 ∷ [])
    ∷ refusal 5 (0 ∷ [])
    ∷ refusal 5 (0 ∷ [])
    ∷ refusal 6 (15 ∷ [])
    ∷ []
unfolding clock apart bytes_k load_answer no_plan read_plan read_as_of read_form form_by read_from blank step_at field_at field_in value_in kind_by number2 number4 size_at whole_at value_at numbers2 route_ports route_in repeats every distinct elem store_all store added closing first_from first_absent names_absent absent_in jitter_absent extra_absent
refusals = refl
