-- The numbers of the answers that name spans mean what the answers mean.
use Rattle.std.specs.Prelude.{◌≡◌, refl, List, [], ◌∷◌, ℕ, Result, Ok, Err}
use Rattle.std.proofs.Common.{sym, ap, ◌∙◌, arith}
use Rattle.cqf.specs.Plan.{Plan}
use Rattle.span_lists.specs.Span.{Span}
use Rattle.answers.specs.Answer.{Answer, result, refusal}
use Rattle.answers.specs.Refusals.{no_span_from}
use Rattle.questions.specs.SpanAnswer.{span_answer_of, spans_answer_of}
use Rattle.questions.specs.declared.one_span.SpanRefusal.{SpanRefusal}
use Rattle.questions.specs.declared.one_span.SpanRecord.{SpanRecord}
use Rattle.questions.specs.declared.span_list.SpansRefusal.{SpansRefusal}
use Rattle.sequences.specs.SpansMeaning.{OneSpan, SpanMeans, SpansMean}
use Rattle.capi.specs.declared.AnswerNumbers.{AnswerNumbers}
use Rattle.capi.specs.Numbers.{search_numbers, span_numbers}
use Rattle.capi.specs.Meaning.{SpanNumbersMean, SpansNumbersMean}

abbrev found : (first last : ℕ) → Answer Span
found first last = result (record { first = first; last = last })

abbrev none : Answer Span
none = refusal no_span_from (0 ∷ [])

-- of what the question for one span answers, equal numbers are equal answers
number : {a b : AnswerNumbers} → a ≡ b → a.refusal ≡ b.refusal
number e = ap (λ (n : AnswerNumbers). n.refusal) e

is_found : (x : Result SpanRecord SpanRefusal) (s : Span) → span_numbers (span_answer_of x) ≡ span_numbers (result s) → span_answer_of x ≡ result s
is_found (Ok r) s e =
    let one : r.first ≡ s.first = ap (λ (n : AnswerNumbers). n.first) e in
    let two : r.last ≡ s.last = ap (λ (n : AnswerNumbers). n.second) e in
    λ i. found (one i) (two i)
is_found (Err SpanRefusal.NoPlan) s e = absurd (omega (arith, number e))
is_found (Err SpanRefusal.BadDuration) s e = absurd (omega (arith, number e))
is_found (Err SpanRefusal.NoSpan) s e = absurd (omega (arith, number e))

is_none : (x : Result SpanRecord SpanRefusal) → span_numbers (span_answer_of x) ≡ span_numbers none → span_answer_of x ≡ none
is_none (Ok r) e = absurd (omega (arith, number e))
is_none (Err SpanRefusal.NoPlan) e = absurd (omega (arith, number e))
is_none (Err SpanRefusal.BadDuration) e = absurd (omega (arith, number e))
is_none (Err SpanRefusal.NoSpan) e = refl

module _ (answer : Result SpanRecord SpanRefusal) (numbers : AnswerNumbers) (is : numbers ≡ span_numbers (span_answer_of answer)) where
  to : (a : Answer Span) → span_answer_of answer ≡ a → numbers ≡ span_numbers a
  to a e = is ∙ ap span_numbers e

  one_span : {p : Plan} {T : ℕ} → OneSpan p T (λ a. span_answer_of answer ≡ a) → OneSpan p T (λ a. numbers ≡ span_numbers a)
  one_span m =
      record {
        first = λ s. (λ e. (m.first s).0 (is_found answer s (sym is ∙ e)), λ h. to _ ((m.first s).1 h));
        none = (λ e. m.none.0 (is_none answer (sym is ∙ e)), λ h. to _ (m.none.1 h));
      }

  pub span_numbers_mean : (p : Plan) (T : ℕ) → SpanMeans p T (span_answer_of answer) → SpanNumbersMean p T numbers
  span_numbers_mean p T means calls mode bytes q ports flows left held read low high =
      one_span (means calls mode bytes q ports flows left held read low high)

-- of all spans
pub spans_numbers_mean
    : (answer : Result ℕ SpansRefusal) (numbers : AnswerNumbers)
    → numbers ≡ search_numbers (spans_answer_of answer)
    → (p : Plan) (list exit : List SpanRecord)
    → SpansMean p list exit (spans_answer_of answer)
    → SpansNumbersMean p list exit numbers
spans_numbers_mean answer numbers is p list exit means calls mode bytes q ports flows left held read =
    let m = means calls mode bytes q ports flows left held read in
    record {
      all = m.all;
      spans = m.spans;
      listed = λ room. let l = m.listed room in (is ∙ ap search_numbers l.0, l.1);
      short = λ less. let l = m.short less in (is ∙ ap search_numbers l.0, l.1);
    }
