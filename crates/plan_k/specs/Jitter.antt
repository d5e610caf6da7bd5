-- Plan K with a jitter for one of its flows, from its bytes.
use Rattle.std.specs.Prelude.{◌≡◌, refl, List, [], ◌∷◌, ◌++◌, map, ℕ, pos, negsuc}
use Rattle.std.proofs.Common.{ap, ◌∙◌}
use Rattle.cqf.specs.Bounded.{sum_to, count_to, any_to, all_to, lowest, elem, distinct, every, sublist}
use Rattle.cqf.specs.Plan.{no_plan, valid_port, valid_flow}
use Rattle.cqf.specs.Ceil.{ceil_div}
use Rattle.cqf.specs.Port.{wire_bits, window, capacity, workload}
use Rattle.cqf.specs.Widened.{widened}
use Rattle.cqf.specs.Condition.{begun, frames}
use Rattle.cqf.proofs.laws.Prefix.{blank_from}
use Rattle.cqf.proofs.laws.Few.{Few, few, few_of, demand_in, fails_in, failing_in}
use Rattle.cqf.proofs.laws.FewValid.{valid_in, valid_few}
use Rattle.cqf.proofs.worked.K.{plan_k}
use Rattle.cqf.proofs.worked.Jitter.{plan_kj}
use Rattle.cqf.proofs.worked.Clock.{plan_kc, few_kc}
use Rattle.plan.specs.Bytes.{number2, number4, size_at, whole_at, value_at, numbers2}
use Rattle.plan.specs.Layout.{form_by}
use Rattle.plan.specs.Field.{route_ports, route_in, value_in, kind_by, field_in, field_at, repeats}
use Rattle.plan_reading.specs.Store.{store, store_all}
use Rattle.plan_reading.specs.Draft.{blank, added}
use Rattle.plan_reading.specs.Reading.{step_at, names_absent, jitter_absent, extra_absent, first_from, first_absent, closing, read_from, read_as_of, read_plan, loose, accepted, absent_in, read_form}
use Rattle.answers.specs.Answer.{result, refusal}
use Rattle.loading.specs.Outcome.{load_answer, load_leaves}
use Rattle.sequences.specs.Calls.{load, after_from, after}
use Rattle.plan_k.specs.PlanK.{bytes_k, Line, at, fails-one, lines_of, lines-few}
use Rattle.plan_k.specs.Extra.{extra, flow3}

-- the field that says a jitter for flow n, by the last three bytes of the jitter
unfoldable pub jitter : (n a b c : ℕ) → List ℕ
jitter n a b c = 0x05 ∷ 0x00 ∷ 0x06 ∷ 0x00 ∷ n ∷ 0x00 ∷ a ∷ b ∷ c ∷ []

-- 30,000 ns for flow 1, and 38,000 ns for flow 2
unfoldable pub late1 : List ℕ
unfolding jitter
late1 = jitter 1 0x00 0x75 0x30

unfoldable late2 : List ℕ
unfolding jitter
late2 = jitter 2 0x00 0x94 0x70

-- a field that says 0 leaves K as it is, with one port and two flows; it may stand before its flow
read_zero : read_plan (jitter 1 0x00 0x00 0x00 ++ bytes_k) ≡ accepted plan_k 1 2
unfolding jitter bytes_k plan_k no_plan read_plan read_as_of read_form form_by read_from blank step_at field_at field_in value_in kind_by number2 number4 size_at whole_at value_at numbers2 route_ports route_in repeats every distinct elem store_all store added closing first_from first_absent names_absent absent_in jitter_absent extra_absent
read_zero = refl

-- with the second field the tables are those that are worked out in cqf
read_late2 : read_plan (late2 ++ bytes_k) ≡ accepted plan_kj 1 2
unfolding late2 jitter bytes_k plan_kj plan_k no_plan read_plan read_as_of read_form form_by read_from blank step_at field_at field_in value_in kind_by number2 number4 size_at whole_at value_at numbers2 route_ports route_in repeats every distinct elem store_all store added closing first_from first_absent names_absent absent_in jitter_absent extra_absent
read_late2 = refl

-- 30,000 ns for flow 1: two of its frames from 70,001 on, so the least duration is 92,000; the margin-safe one stays at 142,000
table1 : List Line
table1 =
    at 70000 fails-one (result (negsuc 199999))
    ∷ at 70001 fails-one (result (negsuc 2199899))
    ∷ at 91999 fails-one (result (negsuc 99))
    ∷ at 92000 (result tt) (result (pos 0))
    ∷ at 110000 (result tt) (result (pos 1800000))
    ∷ at 110001 fails-one (result (negsuc 3199899))
    ∷ at 141999 fails-one (result (negsuc 99))
    ∷ at 142000 (result tt) (result (pos 0))
    ∷ []

table_of1 : lines_of (after (load loose (late1 ++ bytes_k) ∷ [])) table1 ≡ table1
unfolding late1 jitter bytes_k plan_kc plan_k table1 after after_from load_leaves no_plan read_plan read_as_of read_form form_by read_from blank step_at field_at field_in value_in kind_by number2 number4 size_at whole_at value_at numbers2 route_ports route_in repeats every distinct elem store_all store added closing first_from first_absent names_absent absent_in jitter_absent extra_absent valid_in valid_port valid_flow all_to any_to sublist lowest failing_in count_to fails_in capacity window workload demand_in sum_to frames begun widened ceil_div wire_bits
table_of1 =
    let held : after (load loose (late1 ++ bytes_k) ∷ []) ≡ plan_kc 0 0 0 0 30000 = refl in
    ap (λ p. lines_of p table1) held ∙ lines-few (few_kc 0 0 0 0 30000) (valid_few (few_kc 0 0 0 0 30000)) table1

-- 38,000 ns for flow 2: the least duration stays at 72,000, 1 ns more is refused, and the margin-safe one is 212,000
table2 : List Line
table2 =
    at 71999 fails-one (result (negsuc 99))
    ∷ at 72000 (result tt) (result (pos 0))
    ∷ at 72001 fails-one (result (negsuc 4999899))
    ∷ at 142000 (result tt) (result (pos 0))
    ∷ at 182000 (result tt) (result (pos 4000000))
    ∷ at 182001 fails-one (result (negsuc 999899))
    ∷ at 192000 (result tt) (result (pos 0))
    ∷ at 200001 fails-one (result (negsuc 1199899))
    ∷ at 211999 fails-one (result (negsuc 99))
    ∷ at 212000 (result tt) (result (pos 0))
    ∷ []

-- its port and its flows stand where K has them
few_kj : Few 1 2 plan_kj
unfolding plan_kj plan_k no_plan few all_to every sublist blank_from
few_kj = few_of 1 2 plan_kj refl

table_of2 : lines_of (after (load loose (late2 ++ bytes_k) ∷ [])) table2 ≡ table2
unfolding late2 jitter bytes_k plan_kj plan_k table2 after after_from load_leaves no_plan read_plan read_as_of read_form form_by read_from blank step_at field_at field_in value_in kind_by number2 number4 size_at whole_at value_at numbers2 route_ports route_in repeats every distinct elem store_all store added closing first_from first_absent names_absent absent_in jitter_absent extra_absent valid_in valid_port valid_flow all_to any_to sublist lowest failing_in count_to fails_in capacity window workload demand_in sum_to frames begun widened ceil_div wire_bits
table_of2 =
    let held : after (load loose (late2 ++ bytes_k) ∷ []) ≡ plan_kj = refl in
    ap (λ p. lines_of p table2) held ∙ lines-few few_kj (valid_few few_kj) table2

-- 10,000,001 ns, and a flow 0; a second field of a flow whose first said 0; an absent flow, with extra bytes of an absent port before
-- it and a route of one behind it; each at its tag
refusals
    : map (load_answer loose)
    ((jitter 1 0x98 0x96 0x81 ++ bytes_k)
    ∷ (jitter 0 0x00 0x00 0x00 ++ bytes_k)
    ∷ (jitter 1 0x00 0x00 0x00 ++ late1 ++ bytes_k)
    ∷ (jitter 3 0x00 0x00 0x00 ++ bytes_k)
    ∷ (extra 2 0 ++ jitter 3 0x00 0x00 0x00 ++ bytes_k)
    ∷ (jitter 4 0x00 0x00 0x00 ++ bytes_k ++ flow3)
    ∷ [])
    ≡ refusal 5 (0 ∷ [])
    ∷ refusal 5 (0 ∷ [])
    ∷ refusal 6 (9 ∷ [])
    ∷ refusal 9 (0 ∷ [])
    ∷ refusal 9 (7 ∷ [])
    ∷ refusal 9 (61 ∷ [])
    ∷ []
unfolding jitter late1 extra flow3 bytes_k load_answer no_plan read_plan read_as_of read_form form_by read_from blank step_at field_at field_in value_in kind_by number2 number4 size_at whole_at value_at numbers2 route_ports route_in repeats every distinct elem store_all store added closing first_from first_absent names_absent absent_in jitter_absent extra_absent
refusals = refl
