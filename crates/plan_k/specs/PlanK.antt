-- Plan K of document 01 from its 52 bytes, and the table marked P: one statement over one list.
use Rattle.std.specs.Prelude.{◌≡◌, refl, true, List, [], ◌∷◌, map, ℕ, ℤ, pos, negsuc}
use Rattle.std.proofs.Common.{ap, ap₂, ◌∙◌}
use Rattle.std.proofs.Math.Path.{fun_ext}
use Rattle.std.proofs.Math.Option.{some}
use Rattle.cqf.specs.Bounded.{sum_to, count_to, any_to, all_to, lowest, elem, distinct, every, sublist}
use Rattle.cqf.specs.Plan.{Plan, no_plan, valid_plan, valid_port, valid_flow}
use Rattle.cqf.specs.Ceil.{ceil_div}
use Rattle.cqf.specs.Port.{wire_bits, window, capacity, workload}
use Rattle.cqf.specs.Widened.{widened}
use Rattle.cqf.specs.Condition.{begun, frames}
use Rattle.cqf.proofs.laws.Few.{Few, demand_in, fails_in, failing_in}
use Rattle.cqf.proofs.laws.FewValid.{valid_in, valid_few}
use Rattle.cqf.proofs.worked.K.{plan_k, few_k}
use Rattle.plan.specs.Bytes.{number2, number4, size_at, whole_at, value_at, numbers2}
use Rattle.plan.specs.Layout.{form_by}
use Rattle.plan.specs.Field.{route_ports, route_in, value_in, kind_by, field_in, field_at, repeats}
use Rattle.plan_reading.specs.Store.{store, store_all}
use Rattle.plan_reading.specs.Draft.{blank, added}
use Rattle.plan_reading.specs.Reading.{step_at, names_absent, jitter_absent, extra_absent, first_from, first_absent, closing, read_from, read_as_of, read_plan, loose, accepted, absent_in, read_form}
use Rattle.answers.specs.Answer.{Answer, result, refusal}
use Rattle.loading.specs.Outcome.{load_answer}
use Rattle.questions.specs.Outcome.{check_answer, slack_answer}
use Rattle.sequences.specs.Calls.{load, after, held_from, held_bytes}
use Rattle.sequences.specs.laws.Calls.{after_held}
use Rattle.plan_k.specs.Few.{in_range, judged_in, slack_in, check_few, slack_answer_few}

unfoldable pub bytes_k : List ℕ
bytes_k =
    0x01 ∷ 0x00 ∷ 0x08 ∷ 0x00 ∷ 0x00 ∷ 0x03 ∷ 0xe8 ∷ 0x00 ∷ 0x0f ∷ 0x42 ∷ 0x40
    ∷ 0x02 ∷ 0x00 ∷ 0x08 ∷ 0x00 ∷ 0x01 ∷ 0x00 ∷ 0x00 ∷ 0x00 ∷ 0x64 ∷ 0x00 ∷ 0x00
    ∷ 0x03 ∷ 0x00 ∷ 0x0c ∷ 0x00 ∷ 0x01 ∷ 0x00 ∷ 0x01 ∷ 0x86 ∷ 0xa0 ∷ 0x00 ∷ 0x01 ∷ 0x00 ∷ 0xe6 ∷ 0x00 ∷ 0x01
    ∷ 0x03 ∷ 0x00 ∷ 0x0c ∷ 0x00 ∷ 0x02 ∷ 0x00 ∷ 0x01 ∷ 0xad ∷ 0xb0 ∷ 0x00 ∷ 0x01 ∷ 0x02 ∷ 0x5d ∷ 0x00 ∷ 0x01
    ∷ []

-- what the plain question and the slack of port 1 answer at a duration
pub record Line : Type 0 where
  pub duration : ℕ
  pub checked : Answer (Unit {0})
  pub slack : Answer ℤ

abbrev pub at : ℕ → Answer (Unit {0}) → Answer ℤ → Line
at T checked z = record { duration = T; checked = checked; slack = z }

abbrev pub fails-one : Answer (Unit {0})
fails-one = refusal 21 (1 ∷ 1 ∷ [])

-- the lines of a plan at the durations of these
abbrev pub lines_of : Plan → List Line → List Line
lines_of p = map (λ (r : Line). at r.duration (check_answer p r.duration) (slack_answer p 1 r.duration))

unfoldable pub table : List Line
table =
    at 71999 fails-one (result (negsuc 99))
    ∷ at 72000 (result tt) (result (pos 0))
    ∷ at 100000 (result tt) (result (pos 2800000))
    ∷ at 110000 (result tt) (result (pos 1800000))
    ∷ at 110001 fails-one (result (negsuc 3199899))
    ∷ at 120000 fails-one (result (negsuc 2199999))
    ∷ at 141999 fails-one (result (negsuc 99))
    ∷ at 142000 (result tt) (result (pos 0))
    ∷ at 1000 fails-one (result (negsuc 6999999))
    ∷ at 0 (refusal 10 (0 ∷ [])) (refusal 10 (0 ∷ []))
    ∷ at 1000001 (refusal 10 (0 ∷ [])) (refusal 10 (0 ∷ []))
    ∷ []

-- those of a valid plan with few ports and flows
abbrev pub line_in : (m n : ℕ) → Plan → Line → Line
line_in m n p r = at r.duration (in_range p r.duration (judged_in m n p r.duration (result tt))) (in_range p r.duration (slack_in n p 1 r.duration))

pub lines-few : {m n : ℕ} {p : Plan} → Few m n p → valid_plan p ≡ true → (rows : List Line) → lines_of p rows ≡ map (line_in m n p) rows
lines-few small valid rows =
    ap (λ (line : Line → Line). map line rows)
    (fun_ext (λ r. ap₂ (at r.duration) (check_few small valid r.duration) (slack_answer_few small valid 1 r.duration)))

-- K is accepted, with one port and two flows, and its tables are plan_k
pub read_k : read_plan bytes_k ≡ accepted plan_k 1 2
unfolding bytes_k plan_k no_plan read_plan read_as_of read_form form_by read_from blank step_at field_at field_in value_in kind_by number2 number4 size_at whole_at value_at numbers2 route_ports route_in repeats every distinct elem store_all store added closing first_from first_absent names_absent absent_in jitter_absent extra_absent
read_k = refl

-- K is the plan held after its load
pub held_k : held_bytes (load loose bytes_k ∷ []) ≡ some bytes_k
unfolding bytes_k no_plan held_bytes held_from read_plan read_as_of read_form form_by read_from blank step_at field_at field_in value_in kind_by number2 number4 size_at whole_at value_at numbers2 route_ports route_in repeats every distinct elem store_all store added closing first_from first_absent names_absent absent_in jitter_absent extra_absent
held_k = refl

-- so its tables are held, and they are valid
pub after_k : after (load loose bytes_k ∷ []) ≡ plan_k
unfolding read_plan
after_k = after_held (load loose bytes_k ∷ []) loose bytes_k held_k plan_k 1 2 read_k

pub valid_k : valid_plan plan_k ≡ true
unfolding plan_k no_plan valid_in valid_port valid_flow all_to any_to every distinct elem sublist
valid_k = valid_few few_k

-- every line of the table, of the planner that holds the plan in K's bytes
pub table_of_k : lines_of (after (load loose bytes_k ∷ [])) table ≡ table
unfolding table plan_k no_plan lowest failing_in count_to fails_in any_to elem sublist capacity window workload demand_in sum_to frames begun widened ceil_div wire_bits
table_of_k = ap (λ p. lines_of p table) after_k ∙ lines-few few_k valid_k table

-- a field cut short is 2 at its tag and not 3, whether its tag is known or not
cut_short : map (λ (tag : ℕ). load_answer loose (tag ∷ 0x00 ∷ 0x01 ∷ [])) (0x04 ∷ 0x07 ∷ []) ≡ refusal 2 (0 ∷ []) ∷ refusal 2 (0 ∷ []) ∷ []
unfolding load_answer read_plan read_as_of read_form form_by read_from blank step_at field_at field_in value_in kind_by number2 number4 size_at whole_at value_at numbers2 route_ports route_in every
cut_short = refl
