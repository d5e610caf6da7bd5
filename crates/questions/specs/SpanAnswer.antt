-- The number and values of document 02 for each case of the answers on spans.
use Rattle.std.specs.Prelude.{Result, Ok, Err, ℕ, [], ◌∷◌}
use Rattle.span_lists.specs.Span.{Span}
use Rattle.answers.specs.Answer.{Answer, result, refusal}
use Rattle.answers.specs.Refusals.{bad_duration, short_buffer, no_plan_held, no_span_from}
use Rattle.questions.specs.Spans.{span_of}
use Rattle.questions.specs.declared.one_span.SpanRecord.{SpanRecord}
use Rattle.questions.specs.declared.one_span.SpanRefusal.{SpanRefusal}
use Rattle.questions.specs.declared.span_list.SpansRefusal.{SpansRefusal}

abbrev pub span_answer_of : Result SpanRecord SpanRefusal → Answer Span
span_answer_of (Ok s) = result (span_of s)
span_answer_of (Err SpanRefusal.NoPlan) = refusal no_plan_held (0 ∷ [])
span_answer_of (Err SpanRefusal.BadDuration) = refusal bad_duration (0 ∷ [])
span_answer_of (Err SpanRefusal.NoSpan) = refusal no_span_from (0 ∷ [])

abbrev pub spans_answer_of : Result ℕ SpansRefusal → Answer ℕ
spans_answer_of (Ok n) = result n
spans_answer_of (Err SpansRefusal.NoPlan) = refusal no_plan_held (0 ∷ [])
spans_answer_of (Err (SpansRefusal.ShortList n)) = refusal short_buffer (n ∷ [])
