-- Plan K in the newer form, 74 bytes: its answers are K's. And a flow over 24 ports.
use Rattle.std.specs.Prelude.{◌≡◌, refl, List, [], ◌∷◌, ◌++◌, true, ℕ, zero, suc, ◌<◌, length, get_or}
use Rattle.std.proofs.Common.{sym, ap, ◌∙◌, arith, lit≤}
use Rattle.std.proofs.Math.Option.{some}
use Rattle.cqf.specs.Bounded.{sum_to, count_to, any_to, all_to, elem, distinct, every, sublist}
use Rattle.cqf.specs.Form.{older, newer}
use Rattle.cqf.specs.Plan.{Plan, no_plan, valid_plan, valid_port, valid_flow}
use Rattle.cqf.specs.Ceil.{ceil_div}
use Rattle.cqf.specs.Port.{wire_bits, window, capacity, workload}
use Rattle.cqf.specs.Widened.{widened}
use Rattle.cqf.specs.Condition.{begun, frames, admissible}
use Rattle.cqf.proofs.laws.Prefix.{blank_from}
use Rattle.cqf.proofs.laws.Few.{Few, few, few_of, demand_in, fails_in, failing_in, admissible-few}
use Rattle.cqf.proofs.laws.FewValid.{valid_in, valid_few}
use Rattle.cqf.specs.Emission.{Emission, Keeps}
use Rattle.cqf.specs.Cycles.{Cycles, Permitted}
use Rattle.cqf.specs.LargeEnough.{OnTime}
use Rattle.cqf.proofs.results.Theorem.{large_enough}
use Rattle.cqf.proofs.worked.K.{plan_k}
use Rattle.plan.specs.Bytes.{number2, number4, size_at, whole_at, value_at, numbers2}
use Rattle.plan.specs.Layout.{form_by}
use Rattle.plan.specs.Field.{route_ports, route_in, value_in, kind_by, field_in, field_at, repeats}
use Rattle.plan_reading.specs.Store.{store, store_all}
use Rattle.plan_reading.specs.Draft.{blank, added}
use Rattle.plan_reading.specs.Reading.{step_at, absent_in, names_absent, jitter_absent, extra_absent, first_from, first_absent, closing, read_from, read_form, read_as_of, PlanRead, loose, strict, accepted, rejected}
use Rattle.plan_reading.specs.FieldBytes.{bytes2s, value_of, bytes_of, row_bytes}
use Rattle.plan_reading.specs.Saved.{collect_fields, newer_fields, form_bytes}
use Rattle.answers.specs.Answer.{result}
use Rattle.loading.specs.Outcome.{Fields, reading_answer, reading_leaves, load_leaves}
use Rattle.sequences.specs.Calls.{load, after, held_from, held_bytes}
use Rattle.sequences.specs.laws.Calls.{after_held}
use Rattle.plan_k.specs.PlanK.{bytes_k, lines_of, table, table_of_k, after_k}

unfoldable header2 : List ℕ
header2 =
    0x11 ∷ 0x00 ∷ 0x14 ∷ 0x00 ∷ 0x00 ∷ 0x03 ∷ 0xe8 ∷ 0x00 ∷ 0x0f ∷ 0x42 ∷ 0x40
    ∷ 0x00 ∷ 0x00 ∷ 0x00 ∷ 0x00 ∷ 0x00 ∷ 0x00 ∷ 0x00 ∷ 0x00 ∷ 0x00 ∷ 0x00 ∷ 0x00 ∷ 0x00
    ∷ []

-- port n: 100 Mbit/s, no blocker, no extra bytes
unfoldable port2 : ℕ → List ℕ
port2 n = 0x12 ∷ 0x00 ∷ 0x0a ∷ 0x00 ∷ n ∷ 0x00 ∷ 0x00 ∷ 0x00 ∷ 0x64 ∷ 0x00 ∷ 0x00 ∷ 0x00 ∷ 0x00 ∷ []

unfoldable flows2 : List ℕ
flows2 =
    0x13 ∷ 0x00 ∷ 0x10 ∷ 0x00 ∷ 0x01 ∷ 0x00 ∷ 0x01 ∷ 0x86 ∷ 0xa0 ∷ 0x00 ∷ 0x01 ∷ 0x00 ∷ 0xe6 ∷ 0x00 ∷ 0x00 ∷ 0x00 ∷ 0x00 ∷ 0x00 ∷ 0x01
    ∷ 0x13 ∷ 0x00 ∷ 0x10 ∷ 0x00 ∷ 0x02 ∷ 0x00 ∷ 0x01 ∷ 0xad ∷ 0xb0 ∷ 0x00 ∷ 0x01 ∷ 0x02 ∷ 0x5d ∷ 0x00 ∷ 0x00 ∷ 0x00 ∷ 0x00 ∷ 0x00 ∷ 0x01
    ∷ []

unfoldable pub bytes_k2 : List ℕ
unfolding header2 port2 flows2
bytes_k2 = header2 ++ (port2 1 ++ flows2)

long : length bytes_k2 ≡ 74
unfolding bytes_k2 header2 port2 flows2
long = refl

-- either reading accepts it, with one port and two flows, and its tables are K's
read_k2 : read_as_of loose bytes_k2 ≡ accepted plan_k 1 2
unfolding bytes_k2 header2 port2 flows2 plan_k no_plan read_as_of read_form form_by read_from blank step_at field_at field_in value_in kind_by number2 number4 size_at whole_at value_at numbers2 route_ports route_in repeats every distinct elem store_all store added closing first_from first_absent names_absent absent_in jitter_absent extra_absent
read_k2 = refl

strict_k2 : read_as_of strict bytes_k2 ≡ accepted plan_k 1 2
unfolding bytes_k2 header2 port2 flows2 plan_k no_plan read_as_of read_form form_by read_from blank step_at field_at field_in value_in kind_by number2 number4 size_at whole_at value_at numbers2 route_ports route_in repeats every distinct elem store_all store added closing first_from first_absent names_absent absent_in jitter_absent extra_absent
strict_k2 = refl

-- K is saved in the newer form as these bytes
saved_k2 : form_bytes newer plan_k ≡ bytes_k2
unfolding bytes_k2 header2 port2 flows2 plan_k no_plan form_bytes newer_fields collect_fields row_bytes bytes_of value_of bytes2s sublist
saved_k2 = refl

-- so the planner that loaded them holds the plan that the one holds which loaded K, and every line of the table is K's
held_k2 : held_bytes (load loose bytes_k2 ∷ []) ≡ some bytes_k2
unfolding held_bytes held_from
held_k2 = rw read_k2

after_k2 : after (load loose bytes_k2 ∷ []) ≡ plan_k
after_k2 = after_held (load loose bytes_k2 ∷ []) loose bytes_k2 held_k2 plan_k 1 2 read_k2

table_of_k2 : lines_of (after (load loose bytes_k2 ∷ [])) table ≡ table
table_of_k2 = ap (λ (p : Plan). lines_of p table) (after_k2 ∙ sym after_k) ∙ table_of_k

-- The converters read by the tags of one form alone: K given to the way back is 3 at 0, and so are these bytes given to the way there;
-- the port before its header is 12 at the header for the way back, and 3 at 0 for a load.
converter_reads
    : read_form newer strict bytes_k
    ∷ read_form older loose bytes_k2
    ∷ read_form newer strict (port2 1 ++ (header2 ++ flows2))
    ∷ read_as_of loose (port2 1 ++ (header2 ++ flows2))
    ∷ []
    ≡ rejected 3 0
    ∷ rejected 3 0
    ∷ rejected 12 13
    ∷ rejected 3 0
    ∷ []
unfolding bytes_k bytes_k2 header2 port2 flows2 no_plan read_as_of read_form form_by read_from blank step_at field_at field_in value_in kind_by number2 number4 size_at whole_at value_at numbers2 route_ports route_in repeats every distinct elem store_all store added closing first_from first_absent names_absent absent_in jitter_absent extra_absent
converter_reads = refl

-- a flow over the ports 1 to n, and those ports
unfoldable ports2 : ℕ → List ℕ
unfolding port2
ports2 zero = []
ports2 (suc n) = ports2 n ++ port2 (suc n)

unfoldable hops2 : ℕ → List ℕ
hops2 zero = []
hops2 (suc n) = hops2 n ++ (0x00 ∷ suc n ∷ [])

unfoldable bytes24 : List ℕ
unfolding header2 ports2 hops2
bytes24 =
    header2
    ++ (ports2 24
    ++ ((0x13 ∷ 0x00 ∷ 0x3e ∷ 0x00 ∷ 0x01 ∷ 0x00 ∷ 0x01 ∷ 0x86 ∷ 0xa0 ∷ 0x00 ∷ 0x01 ∷ 0x00 ∷ 0xe6 ∷ 0x00 ∷ 0x00 ∷ 0x00 ∷ 0x00 ∷ []) ++ hops2 24))

-- the plan in these bytes
unfoldable pub plan24 : Plan
unfolding load_leaves bytes24 no_plan
plan24 = load_leaves loose no_plan bytes24

-- a reading is accepted with the numbers that it answers, and with the plan that it leaves
accepted_of
    : (held : Plan) (r : PlanRead) (fields : Fields)
    → reading_answer r ≡ result fields
    → r ≡ accepted (reading_leaves held r) fields.ports fields.flows
accepted_of held (accepted p m n) fields e =
    let same : ◌≡◌ {A = Fields} (record { ports = m; flows = n }) fields = cc in
    ap (λ (f : Fields). accepted p f.ports f.flows) same
accepted_of held (rejected m n) fields e = let z : ◌≡◌ {A = ℕ} 0 1 = cc in absurd (omega arith)

answer24 : reading_answer (read_as_of loose bytes24) ≡ result (record { ports = 24; flows = 1 })
unfolding bytes24 header2 ports2 port2 hops2 no_plan read_as_of read_form form_by read_from blank step_at field_at field_in value_in kind_by number2 number4 size_at whole_at value_at numbers2 route_ports route_in repeats every distinct elem store_all store added closing first_from first_absent names_absent absent_in jitter_absent extra_absent
answer24 = refl

read24 : read_as_of loose bytes24 ≡ accepted plan24 24 1
unfolding plan24 load_leaves
read24 = accepted_of no_plan (read_as_of loose bytes24) (record { ports = 24; flows = 1 }) answer24

few24 : Few 24 1 plan24
unfolding plan24 bytes24 header2 ports2 port2 hops2 load_leaves no_plan read_as_of read_form form_by read_from blank step_at field_at field_in value_in kind_by number2 number4 size_at whole_at value_at numbers2 route_ports route_in repeats every distinct elem store_all store added closing first_from first_absent names_absent absent_in jitter_absent extra_absent few blank_from all_to sublist
few24 = few_of 24 1 plan24 refl

valid24 : valid_plan plan24 ≡ true
unfolding plan24 bytes24 header2 ports2 port2 hops2 load_leaves no_plan read_as_of read_form form_by read_from blank step_at field_at field_in value_in kind_by number2 number4 size_at whole_at value_at numbers2 route_ports route_in repeats every distinct elem store_all store added closing first_from first_absent names_absent absent_in jitter_absent extra_absent valid_in valid_port valid_flow all_to any_to sublist
valid24 = valid_few few24

admissible24 : admissible plan24 100000 ≡ true
unfolding plan24 bytes24 header2 ports2 port2 hops2 load_leaves no_plan read_as_of read_form form_by read_from blank step_at field_at field_in value_in kind_by number2 number4 size_at whole_at value_at numbers2 route_ports route_in repeats every distinct elem store_all store added closing first_from first_absent names_absent absent_in jitter_absent extra_absent failing_in count_to fails_in capacity window workload demand_in sum_to frames begun widened ceil_div wire_bits sublist any_to
admissible24 = admissible-few few24 100000

-- each of its frames leaves the last port in the 24th cycle after its own, whatever the emission
pub on_time24
    : (e : Emission)
    → Keeps plan24 e
    → (cycles : Cycles)
    → Permitted plan24 100000 e cycles
    → (k : ℕ)
    → k < length (e 0)
    → OnTime plan24 100000 cycles 0 k (get_or (e 0) k 0) (get_or (cycles 0) k 0) 24
unfolding plan24 bytes24 header2 ports2 port2 hops2 load_leaves no_plan read_as_of read_form form_by read_from blank step_at field_at field_in value_in kind_by number2 number4 size_at whole_at value_at numbers2 route_ports route_in repeats every distinct elem store_all store added closing first_from first_absent names_absent absent_in jitter_absent extra_absent sublist
on_time24 e keeps cycles permitted k l = (large_enough plan24 valid24 100000 (lit≤ tt)).accepted admissible24 e keeps cycles permitted 0 k l
