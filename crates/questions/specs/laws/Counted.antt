-- What the spans of tables answer, case by case, and what a list filled with them is left with.
use Rattle.std.specs.Prelude.{◌≡◌, List, [], ◌∷◌, ◌++◌, map, ℕ, ◌≤◌, ◌<◌, length, drop}
use Rattle.std.proofs.Common.{ap, ◌∙◌, le_refl}
use Rattle.std.proofs.Math.Bool.{true, false}
use Rattle.std.proofs.Math.Seq.{take-length}
use borrow.Author.Tests.{le-leb, lt-leb}
use Rattle.cqf.specs.Plan.{Plan, valid_plan}
use Rattle.span_lists.specs.Span.{spans}
use Rattle.answers.specs.Answer.{result, refusal}
use Rattle.answers.specs.Refusals.{short_buffer, no_plan_held}
use Rattle.questions.specs.Spans.{record_of, spans_answer, spans_leaves}
use Rattle.questions.specs.SpanList.{filled}
use Rattle.questions.specs.declared.one_span.SpanRecord.{SpanRecord}
use Rattle.questions.specs.laws.SpanList.{filled_is}

-- tables that are not valid: 20, and the list as it was
module _ (p : Plan) where
  pub spans-none : (size : ℕ) → valid_plan p ≡ false → spans_answer p size ≡ refusal no_plan_held (0 ∷ [])
  unfolding spans_answer
  spans-none size e = rw e

  pub spans_keeps : (l : List SpanRecord) → valid_plan p ≡ false → spans_leaves p l ≡ l
  unfolding spans_leaves
  spans_keeps l e = rw e

  -- a valid plan: all spans in the list, or 13 with the count
  module _ (valid : valid_plan p ≡ true) (l : List SpanRecord) where
    pub spans-listed : length (spans p) ≤ length l → (spans_answer p (length l) ≡ result (length (spans p))) × (spans_leaves p l ≡ map record_of (spans p) ++ drop (length (spans p)) l)
    unfolding spans_answer spans_leaves
    spans-listed k = (rw (valid, le-leb _ _ k), rw (valid, le-leb _ _ k))

    pub spans_short : length l < length (spans p) → (spans_answer p (length l) ≡ refusal short_buffer (length (spans p) ∷ [])) × (spans_leaves p l ≡ l)
    unfolding spans_answer spans_leaves
    spans_short k = (rw (valid, lt-leb _ _ k), rw (valid, lt-leb _ _ k))

    -- the list with all of them in front
    pub filled_all : length (spans p) ≤ length l → filled p l (length (spans p)) ≡ spans_leaves p l
    unfolding spans_leaves
    filled_all k =
        filled_is p l (length (spans p)) (le_refl _) k
        ∙ ap (λ s. map record_of s ++ drop (length (spans p)) l) (take-length (spans p))
        ∙ rw (valid, le-leb _ _ k)
