-- Plan K with extra bytes at its port, from its bytes.
use Rattle.std.specs.Prelude.{◌≡◌, refl, List, [], ◌∷◌, ◌++◌, map, ℕ, pos, negsuc}
use Rattle.std.proofs.Common.{ap, ◌∙◌}
use Rattle.cqf.specs.Bounded.{sum_to, count_to, any_to, all_to, lowest, elem, distinct, every, sublist}
use Rattle.cqf.specs.Plan.{no_plan, valid_port, valid_flow}
use Rattle.cqf.specs.Ceil.{ceil_div}
use Rattle.cqf.specs.Port.{wire_bits, window, capacity, workload}
use Rattle.cqf.specs.Widened.{widened}
use Rattle.cqf.specs.Condition.{begun, frames}
use Rattle.cqf.proofs.laws.Few.{demand_in, fails_in, failing_in}
use Rattle.cqf.proofs.laws.FewValid.{valid_in, valid_few}
use Rattle.cqf.proofs.worked.K.{plan_k}
use Rattle.cqf.proofs.worked.Clock.{plan_kc, few_kc}
use Rattle.plan.specs.Bytes.{number2, number4, size_at, whole_at, value_at, numbers2}
use Rattle.plan.specs.Layout.{form_by}
use Rattle.plan.specs.Field.{route_ports, route_in, value_in, kind_by, field_in, field_at, repeats}
use Rattle.plan_reading.specs.Store.{store, store_all}
use Rattle.plan_reading.specs.Draft.{blank, added}
use Rattle.plan_reading.specs.Reading.{step_at, names_absent, jitter_absent, extra_absent, first_from, first_absent, closing, read_from, read_as_of, read_plan, loose, accepted, absent_in, read_form}
use Rattle.answers.specs.Answer.{result, refusal}
use Rattle.loading.specs.Outcome.{load_answer, load_leaves}
use Rattle.sequences.specs.Calls.{load, after_from, after}
use Rattle.plan_k.specs.PlanK.{bytes_k, Line, at, fails-one, lines_of, lines-few}

-- the field that says b extra bytes at port n; both are below 256
unfoldable pub extra : ℕ → ℕ → List ℕ
extra n b = 0x04 ∷ 0x00 ∷ 0x04 ∷ 0x00 ∷ n ∷ 0x00 ∷ b ∷ []

-- a field that says 0 leaves K as it is, with one port and two flows; it may stand before its port
read_zero : read_plan (extra 1 0 ++ bytes_k) ≡ accepted plan_k 1 2
unfolding extra bytes_k plan_k no_plan read_plan read_as_of read_form form_by read_from blank step_at field_at field_in value_in kind_by number2 number4 size_at whole_at value_at numbers2 route_ports route_in repeats every distinct elem store_all store added closing first_from first_absent names_absent absent_in jitter_absent extra_absent
read_zero = refl

-- with 32 bytes the least duration is 77,120 and the margin-safe one 227,360; the flows' frames have 2,256 and 5,256 bits
table32 : List Line
table32 =
    at 77119 fails-one (result (negsuc 99))
    ∷ at 77120 (result tt) (result (pos 0))
    ∷ at 220000 (result tt) (result (pos 4520000))
    ∷ at 220001 fails-one (result (negsuc 735899))
    ∷ at 227359 fails-one (result (negsuc 99))
    ∷ at 227360 (result tt) (result (pos 0))
    ∷ []

table_of32 : lines_of (after (load loose (extra 1 32 ++ bytes_k) ∷ [])) table32 ≡ table32
unfolding extra bytes_k plan_kc plan_k table32 after after_from load_leaves no_plan read_plan read_as_of read_form form_by read_from blank step_at field_at field_in value_in kind_by number2 number4 size_at whole_at value_at numbers2 route_ports route_in repeats every distinct elem store_all store added closing first_from first_absent names_absent absent_in jitter_absent extra_absent valid_in valid_port valid_flow all_to any_to sublist lowest failing_in count_to fails_in capacity window workload demand_in sum_to frames begun widened ceil_div wire_bits
table_of32 =
    let held : after (load loose (extra 1 32 ++ bytes_k) ∷ []) ≡ plan_kc 0 0 0 32 0 = refl in
    ap (λ p. lines_of p table32) held ∙ lines-few (few_kc 0 0 0 32 0) (valid_few (few_kc 0 0 0 32 0)) table32

-- flow 3 over port 3, which K does not have
unfoldable pub flow3 : List ℕ
flow3 = 0x03 ∷ 0x00 ∷ 0x0c ∷ 0x00 ∷ 0x03 ∷ 0x00 ∷ 0x01 ∷ 0x86 ∷ 0xa0 ∷ 0x00 ∷ 0x01 ∷ 0x00 ∷ 0xe6 ∷ 0x00 ∷ 0x03 ∷ []

-- 65 bytes, and a port 65; a second field of a port whose first said 0; an absent port, and a route of one before it; each at its tag
refusals
    : map (load_answer loose)
    ((extra 1 65 ++ bytes_k)
    ∷ (extra 65 0 ++ bytes_k)
    ∷ (extra 1 0 ++ extra 1 32 ++ bytes_k)
    ∷ (extra 2 0 ++ bytes_k)
    ∷ (extra 2 0 ++ bytes_k ++ flow3)
    ∷ [])
    ≡ refusal 5 (0 ∷ [])
    ∷ refusal 5 (0 ∷ [])
    ∷ refusal 6 (7 ∷ [])
    ∷ refusal 9 (0 ∷ [])
    ∷ refusal 9 (59 ∷ [])
    ∷ []
unfolding extra flow3 bytes_k load_answer no_plan read_plan read_as_of read_form form_by read_from blank step_at field_at field_in value_in kind_by number2 number4 size_at whole_at value_at numbers2 route_ports route_in repeats every distinct elem store_all store added closing first_from first_absent names_absent absent_in jitter_absent extra_absent
refusals = refl
