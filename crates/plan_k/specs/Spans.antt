-- The spans of plan K, from its bytes: one for each of some durations, and all of them into a list.
use Rattle.std.specs.Prelude.{◌≡◌, refl, List, [], ◌∷◌, map, ℕ, length, drop}
use Rattle.std.proofs.Common.{ap, ◌∙◌}
use Rattle.cqf.specs.Bounded.{any_to, all_to, elem, distinct, every, sublist}
use Rattle.cqf.specs.Plan.{Plan, no_plan, valid_plan, valid_port, valid_flow}
use Rattle.cqf.proofs.worked.K.{plan_k}
use Rattle.span_lists.specs.Span.{Span, spans, ending_from}
use Rattle.span_lists.specs.worked.Spans.{span, plan_kt, spans_k, spans_k50}
use Rattle.plan.specs.Bytes.{number2, number4, size_at, whole_at, value_at, numbers2}
use Rattle.plan.specs.Layout.{form_by}
use Rattle.plan.specs.Field.{route_ports, route_in, value_in, kind_by, field_in, field_at, repeats}
use Rattle.plan_reading.specs.Store.{store, store_all}
use Rattle.plan_reading.specs.Draft.{blank, added}
use Rattle.plan_reading.specs.Reading.{step_at, names_absent, jitter_absent, extra_absent, first_from, first_absent, closing, read_from, read_as_of, read_plan, loose, absent_in, read_form}
use Rattle.answers.specs.Answer.{Answer, result, refusal}
use Rattle.loading.specs.Outcome.{load_leaves}
use Rattle.questions.specs.Outcome.{asked}
use Rattle.questions.specs.Spans.{first_answer, span_answer, spans_answer, spans_leaves}
use Rattle.questions.specs.declared.one_span.SpanRecord.{SpanRecord}
use Rattle.sequences.specs.Calls.{load, after_from, after}
use Rattle.plan_k.specs.PlanK.{bytes_k}

-- K with a top of 50,000
unfoldable bytes_k50 : List ℕ
unfolding bytes_k
bytes_k50 = 0x01 ∷ 0x00 ∷ 0x08 ∷ 0x00 ∷ 0x00 ∷ 0x03 ∷ 0xe8 ∷ 0x00 ∷ 0x00 ∷ 0xc3 ∷ 0x50 ∷ drop 11 bytes_k

-- the tables after the load of each
tables : (after (load loose bytes_k ∷ []) ≡ plan_k) × (after (load loose bytes_k50 ∷ []) ≡ plan_kt 50000 0)
unfolding bytes_k bytes_k50 plan_k plan_kt no_plan after after_from load_leaves read_plan read_as_of read_form form_by read_from blank step_at field_at field_in value_in kind_by number2 number4 size_at whole_at value_at numbers2 route_ports route_in repeats every distinct elem store_all store added closing first_from first_absent names_absent absent_in jitter_absent extra_absent
tables = (refl, refl)

pub tables_k : after (load loose bytes_k ∷ []) ≡ plan_k
tables_k = tables.0

-- one span for each of these durations, by the list of all
abbrev durations : List ℕ
durations = 0 ∷ 1 ∷ 72000 ∷ 110000 ∷ 110001 ∷ 1000000 ∷ 1000001 ∷ []

abbrev by_list : Plan → List Span → ℕ → Answer Span
by_list p ss T = asked p T (first_answer (ending_from T ss))

one_of_k
    : map (span_answer (after (load loose bytes_k ∷ []))) durations
    ≡ refusal 10 (0 ∷ [])
    ∷ result (span 72000 110000)
    ∷ result (span 72000 110000)
    ∷ result (span 72000 110000)
    ∷ result (span 142000 1000000)
    ∷ result (span 142000 1000000)
    ∷ refusal 10 (0 ∷ [])
    ∷ []
unfolding span_answer ending_from plan_k no_plan valid_plan valid_port valid_flow all_to any_to every distinct elem sublist
one_of_k =
    ap (λ (p : Plan). map (span_answer p) durations) tables.0
    ∙ ap (λ (ss : List Span). map (by_list plan_k ss) durations) spans_k

-- none from 1 on where top is 50,000
none_of_k50 : span_answer (after (load loose bytes_k50 ∷ [])) 1 ≡ refusal 25 (0 ∷ [])
unfolding span_answer ending_from plan_kt plan_k no_plan valid_plan valid_port valid_flow all_to any_to every distinct elem sublist
none_of_k50 = ap (λ (p : Plan). span_answer p 1) tables.1 ∙ ap (λ (ss : List Span). by_list (plan_kt 50000 0) ss 1) spans_k50

-- all of them, into lists of no, one, two and three records; and of none into an empty list
abbrev marked : SpanRecord
marked = record { first = 1; last = 2 }

record Left : Type 0 where
  answer : Answer ℕ
  list : List SpanRecord

abbrev asks : Plan → List SpanRecord → Left
asks p list = record { answer = spans_answer p (length list); list = spans_leaves p list }

all_of_k
    : map (asks (after (load loose bytes_k ∷ []))) ([] ∷ (marked ∷ []) ∷ (marked ∷ marked ∷ []) ∷ (marked ∷ marked ∷ marked ∷ []) ∷ [])
    ≡ record { answer = refusal 13 (2 ∷ []); list = [] }
    ∷ record { answer = refusal 13 (2 ∷ []); list = marked ∷ [] }
    ∷ record { answer = result 2; list = record { first = 72000; last = 110000 } ∷ record { first = 142000; last = 1000000 } ∷ [] }
    ∷ record { answer = result 2; list = record { first = 72000; last = 110000 } ∷ record { first = 142000; last = 1000000 } ∷ marked ∷ [] }
    ∷ []
unfolding spans_answer spans_leaves plan_k no_plan valid_plan valid_port valid_flow all_to any_to every distinct elem sublist
all_of_k = rw (tables.0, spans_k) refl

all_of_k50 : asks (after (load loose bytes_k50 ∷ [])) [] ≡ record { answer = result 0; list = [] }
unfolding spans_answer spans_leaves plan_kt plan_k no_plan valid_plan valid_port valid_flow all_to any_to every distinct elem sublist
all_of_k50 = rw (tables.1, spans_k50) refl
