-- What the answers that name spans mean, of the plan held after every sequence of calls.
use Rattle.std.specs.Prelude.{◌≡◌, ◌↔◌, false, List, [], ◌∷◌, ◌++◌, map, ℕ, ◌≤◌, ◌<◌, length, drop}
use Rattle.cqf.specs.Plan.{Plan}
use Rattle.cqf.specs.Condition.{admissible}
use Rattle.span_lists.specs.Span.{Span, IsSpan, Spans}
use Rattle.answers.specs.Answer.{Answer, result, refusal}
use Rattle.answers.specs.Refusals.{short_buffer, no_span_from}
use Rattle.questions.specs.Spans.{record_of, span_answer, spans_answer, spans_leaves}
use Rattle.questions.specs.declared.one_span.SpanRecord.{SpanRecord}
use Rattle.sequences.specs.Meaning.{OfHeld}

-- An answer to the question for one span at T, by what it is. It names a span exactly where that one ends at T or later and nothing
-- from T to below it is admissible, so that it is the first; it is 25 exactly where nothing from T to top is admissible.
pub record OneSpan (p : Plan) (T : ℕ) (Is : Answer Span → Type 0) : Type 0 where
  pub first
      : (s : Span)
      → Is (result s) ↔ (IsSpan p s × (T ≤ s.last) × ((u : ℕ) → T ≤ u → u < s.first → admissible p u ≡ false))
  pub none : Is (refusal no_span_from (0 ∷ [])) ↔ ((u : ℕ) → T ≤ u → u ≤ p.top → admissible p u ≡ false)

-- An answer to the question for all spans, by what it is, and the list as it was and as it is left. A list that is long enough has
-- all spans, rising, in its first records, and the others remain; the answer is how many they are. A shorter one is left as it was,
-- and the answer is 13 with how many they are.
pub record AllSpans (p : Plan) (list exit : List SpanRecord) (Is : Answer ℕ → Type 0) : Type 0 where
  pub all : List Span
  pub spans : Spans p all
  pub listed : length all ≤ length list → Is (result (length all)) × (exit ≡ map record_of all ++ drop (length all) list)
  pub short : length list < length all → Is (refusal short_buffer (length all ∷ [])) × (exit ≡ list)

-- of a T from 1 to the top of that plan
abbrev pub SpanMeansHeld : Plan → (T : ℕ) → (Answer Span → Type 0) → Type 0
SpanMeansHeld tables T Is = OfHeld tables (λ p. 1 ≤ T → T ≤ p.top → OneSpan p T Is)

abbrev pub SpansMeanHeld : Plan → (list exit : List SpanRecord) → (Answer ℕ → Type 0) → Type 0
SpansMeanHeld tables list exit Is = OfHeld tables (λ p. AllSpans p list exit Is)

abbrev pub SpanMeans : Plan → (T : ℕ) → Answer Span → Type 0
SpanMeans tables T answer = SpanMeansHeld tables T (λ a. answer ≡ a)

abbrev pub SpansMean : Plan → (list exit : List SpanRecord) → Answer ℕ → Type 0
SpansMean tables list exit answer = SpansMeanHeld tables list exit (λ a. answer ≡ a)

-- What is said of the usable durations of a plan. Its spans are a list: all of them, rising, with a refused duration between two; a
-- duration is admissible exactly when one of them holds it; the first begins at the least duration and, where there is a margin-safe
-- one, the last begins there and ends at top. And the answers name them.
pub record Usable (tables p : Plan) : Type 0 where
  pub spans : (ss : List Span) × Spans p ss
  pub one : (T : ℕ) → 1 ≤ T → T ≤ p.top → OneSpan p T (λ a. span_answer tables T ≡ a)
  pub all : (list : List SpanRecord) → AllSpans p list (spans_leaves tables list) (λ a. spans_answer tables (length list) ≡ a)
