-- What the questions for spans answer and leave in the lent list, for any held plan, any duration and any list. Tables that are not
-- valid count as no plan held (refusal 20).
use Rattle.std.specs.Prelude.{◌≡◌, ◌≤◌, Option, Some, None, ℕ, List, [], ◌∷◌, ◌++◌, map, cond, ◌&&◌, leb, length, drop}
use Rattle.cqf.specs.Plan.{Plan, valid_plan}
use Rattle.span_lists.specs.Span.{Span, spans, ending_from}
use Rattle.answers.specs.Answer.{Answer, result, refusal}
use Rattle.answers.specs.Refusals.{short_buffer, no_plan_held, no_span_from}
use Rattle.questions.specs.Outcome.{asked}
use Rattle.questions.specs.declared.one_span.SpanRecord.{SpanRecord}

-- a span as a record of the list, and back
abbrev pub record_of : Span → SpanRecord
record_of s = record { first = s.first; last = s.last }

abbrev pub span_of : SpanRecord → Span
span_of r = record { first = r.first; last = r.last }

-- stands for no span
abbrev pub no_span_of : Span
no_span_of = record { first = 0; last = 0 }

-- the first of a list, 25 where it is empty
abbrev pub first_answer : List Span → Answer Span
first_answer [] = refusal no_span_from (0 ∷ [])
first_answer (s ∷ ss) = result s

abbrev pub first_or : List Span → Span
first_or [] = no_span_of
first_or (s ∷ ss) = s

-- the first span that ends at T or later
unfoldable pub next_span : Plan → (T : ℕ) → Span
next_span p T = first_or (ending_from T (spans p))

-- what the code answers: that span, up to top, or none where there is none
pub record IsNext (p : Plan) (T : ℕ) (r : Option SpanRecord) : Type 0 where
  pub none : r ≡ None → next_span p T ≡ no_span_of
  pub some : (s : SpanRecord) → r ≡ Some s → (span_of s ≡ next_span p T) × (1 ≤ s.last) × (s.last ≤ p.top)

-- 20, 10, then 25 where there is none
unfoldable pub span_answer : Plan → (T : ℕ) → Answer Span
unfolding valid_plan
span_answer p T = asked p T (first_answer (ending_from T (spans p)))

-- 20, then 13 with the count where the list is shorter
unfoldable pub spans_answer : Plan → (size : ℕ) → Answer ℕ
unfolding valid_plan
spans_answer p size =
    cond (valid_plan p)
    (cond (leb (length (spans p)) size) (result (length (spans p))) (refusal short_buffer (length (spans p) ∷ [])))
    (refusal no_plan_held (0 ∷ []))

-- all spans in the first records of the list; the list as it was where that is refused
unfoldable pub spans_leaves : Plan → (list : List SpanRecord) → List SpanRecord
unfolding valid_plan
spans_leaves p list =
    cond (valid_plan p && leb (length (spans p)) (length list))
    (map record_of (spans p) ++ drop (length (spans p)) list)
    list
