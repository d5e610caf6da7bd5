-- The theorems of usable durations, over sequences of calls: of the plan in the bytes of the last load in which the rules find no
-- refusal.
use Rattle.std.specs.Prelude.{◌≡◌, true, List, ℕ, ◌≤◌, length}
use Rattle.std.proofs.Common.{sym, subst, ◌∙◌, le-leb}
use Rattle.std.proofs.Math.Option.{some}
use Rattle.cqf.specs.Bounded.{within}
use Rattle.cqf.specs.Plan.{Plan, valid_plan}
use Rattle.span_lists.specs.Span.{spans}
use Rattle.span_lists.specs.results.Theorem.{spans_are}
use Rattle.plan_reading.specs.Reading.{accepted, Mode, read_as_of}
use Rattle.plan_reading.specs.results.StrictTheorem.{read_loosely}
use Rattle.plan_reading.specs.laws.validity.Valid.{accepted_valid}
use Rattle.answers.specs.Answer.{Answer}
use Rattle.questions.specs.Spans.{span_answer, spans_answer, spans_leaves}
use Rattle.questions.specs.declared.one_span.SpanRecord.{SpanRecord}
use Rattle.questions.specs.laws.Spans.{span_result, span_refusal}
use Rattle.questions.specs.laws.Counted.{spans-listed, spans_short}
use Rattle.sequences.specs.Calls.{Call, after, held_bytes}
use Rattle.sequences.specs.SpansMeaning.{OneSpan, AllSpans, SpanMeans, SpansMean, Usable}
use Rattle.sequences.specs.laws.Calls.{after_held}

-- of a valid plan
module _ (p : Plan) (valid : valid_plan p ≡ true) where
  one_span : (T : ℕ) → 1 ≤ T → T ≤ p.top → OneSpan p T (λ a. span_answer p T ≡ a)
  one_span T low high =
      let ranged : within 1 p.top T ≡ true = rw (le-leb 1 T low, le-leb T p.top high) in
      record { first = span_result p T valid ranged low; none = span_refusal p T valid ranged low }

  all_spans : (list : List SpanRecord) → AllSpans p list (spans_leaves p list) (λ a. spans_answer p (length list) ≡ a)
  all_spans list =
      record { all = spans p; spans = spans_are p; listed = spans-listed p valid list; short = spans_short p valid list }

-- what is said of the usable durations
pub held_usable
    : (calls : List Call) (mode : Mode) (bytes : List ℕ)
    → held_bytes calls ≡ some bytes
    → (p : Plan) (ports flows : ℕ)
    → read_as_of mode bytes ≡ accepted p ports flows
    → Usable (after calls) p
held_usable calls mode bytes held p ports flows reads =
    let valid = accepted_valid bytes p ports flows (read_loosely mode bytes p ports flows reads) in
    subst (λ (q : Plan). Usable q p) (sym (after_held calls mode bytes held p ports flows reads))
    record { spans = (spans p, spans_are p); one = one_span p valid; all = all_spans p valid }

-- what the answer to the question for one span means
pub span_means : (tables : Plan) (T : ℕ) → SpanMeans tables T (span_answer tables T)
span_means tables T calls mode bytes p ports flows left held reads low high =
    let same : tables ≡ p = left ∙ after_held calls mode bytes held p ports flows reads in
    let valid = accepted_valid bytes p ports flows (read_loosely mode bytes p ports flows reads) in
    subst (λ (q : Plan). OneSpan p T (λ a. span_answer q T ≡ a)) (sym same) (one_span p valid T low high)

-- what the answer to the question for all spans means, and the list that is left
pub spans_mean : (tables : Plan) (list : List SpanRecord) → SpansMean tables list (spans_leaves tables list) (spans_answer tables (length list))
spans_mean tables list calls mode bytes p ports flows left held reads =
    let same : tables ≡ p = left ∙ after_held calls mode bytes held p ports flows reads in
    let valid = accepted_valid bytes p ports flows (read_loosely mode bytes p ports flows reads) in
    subst (λ (q : Plan). AllSpans p list (spans_leaves q list) (λ a. spans_answer q (length list) ≡ a)) (sym same) (all_spans p valid list)

-- the same of an answer and a list that are those of the definition
pub spans_told
    : (tables : Plan) (list exit : List SpanRecord) (answer : Answer ℕ)
    → (answer ≡ spans_answer tables (length list)) × (exit ≡ spans_leaves tables list)
    → SpansMean tables list exit answer
spans_told tables list exit answer e =
    subst (λ (x : List SpanRecord). SpansMean tables list x answer) (sym e.1)
    (subst (λ (a : Answer ℕ). SpansMean tables list (spans_leaves tables list) a) (sym e.0) (spans_mean tables list))
