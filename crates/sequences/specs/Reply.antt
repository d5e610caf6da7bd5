-- What comes back of a question: its answer, and the lent memory as it is left.
use Rattle.std.specs.Prelude.{◌≡◌, List, [], ◌∷◌, ℕ, ℤ, length}
use Rattle.cqf.specs.Form.{form_from}
use Rattle.cqf.specs.Plan.{Plan}
use Rattle.span_lists.specs.Span.{Span}
use Rattle.answers.specs.Answer.{Answer, refusal}
use Rattle.answers.specs.Refusals.{no_plan_held}
use Rattle.questions.specs.Outcome.{check_answer, slack_answer, least_answer, least_leaves, margin_safe_answer, margin_safe_leaves}
use Rattle.questions.specs.Lean.{lean_least_answer, lean_least_leaves, lean_margin_safe_answer, lean_margin_safe_leaves}
use Rattle.questions.specs.FixedPoint.{FixedPoint, fixed_point_answer}
use Rattle.questions.specs.Reprice.{reprice_answer, reprice_leaves}
use Rattle.questions.specs.Spans.{span_answer, spans_answer, spans_leaves}
use Rattle.questions.specs.Nearest.{Nearest, nearest_answer}
use Rattle.questions.specs.declared.one_span.SpanRecord.{SpanRecord}
use Rattle.saving.specs.Save.{save_answer, save_leaves}
use Rattle.gate_writing.specs.Gates.{gates_answer, gates_leaves}
use Rattle.sequences.specs.Calls.{Question, check, slack, least, margin_safe, lean_least, lean_margin_safe, fixed_point, save, gates, reprice, span, spans, nearest}

pub data Reply : Type 0 where
  of_check : Answer (Unit {0}) → Reply
  of_slack : Answer ℤ → Reply
  of_search : Answer ℕ → (scratch : List ℕ) → Reply
  of_fixed_point : Answer FixedPoint → Reply
  of_writing : Answer ℕ → (buffer : List ℕ) → Reply
  of_reprice : Answer (Unit {0}) → (out : List ℤ) → Reply
  of_span : Answer Span → Reply
  of_spans : Answer ℕ → (list : List SpanRecord) → Reply
  of_nearest : Answer Nearest → Reply

-- by a planner that holds this plan, read in the form of this number, which only saving asks for
abbrev pub reply : (form : ℕ) → Plan → Question → Reply
reply form p (check T) = of_check (check_answer p T)
reply form p (slack n T) = of_slack (slack_answer p n T)
reply form p (least scratch) = of_search (least_answer p scratch) (least_leaves p scratch)
reply form p (margin_safe scratch) = of_search (margin_safe_answer p scratch) (margin_safe_leaves p scratch)
reply form p (lean_least scratch) = of_search (lean_least_answer p scratch) (lean_least_leaves p scratch)
reply form p (lean_margin_safe scratch) = of_search (lean_margin_safe_answer p scratch) (lean_margin_safe_leaves p scratch)
reply form p (fixed_point start steps) = of_fixed_point (fixed_point_answer p start steps)
reply form p (save buffer) = of_writing (save_answer (form_from form) p buffer) (save_leaves (form_from form) p buffer)
reply form p (gates T even odd buffer) = of_writing (gates_answer p T even odd buffer) (gates_leaves p T even odd buffer)
reply form p (reprice T n bytes out) = of_reprice (reprice_answer p T n bytes out) (reprice_leaves p T n bytes out)
reply form p (span T) = of_span (span_answer p T)
reply form p (spans list) = of_spans (spans_answer p (length list)) (spans_leaves p list)
reply form p (nearest T) = of_nearest (nearest_answer p T)

-- 20 with 0, and lent memory as it was
abbrev pub no_plan_reply : Question → Reply
no_plan_reply (check T) = of_check (refusal no_plan_held (0 ∷ []))
no_plan_reply (slack n T) = of_slack (refusal no_plan_held (0 ∷ []))
no_plan_reply (least scratch) = of_search (refusal no_plan_held (0 ∷ [])) scratch
no_plan_reply (margin_safe scratch) = of_search (refusal no_plan_held (0 ∷ [])) scratch
no_plan_reply (lean_least scratch) = of_search (refusal no_plan_held (0 ∷ [])) scratch
no_plan_reply (lean_margin_safe scratch) = of_search (refusal no_plan_held (0 ∷ [])) scratch
no_plan_reply (fixed_point start steps) = of_fixed_point (refusal no_plan_held (0 ∷ []))
no_plan_reply (save buffer) = of_writing (refusal no_plan_held (0 ∷ [])) buffer
no_plan_reply (gates T even odd buffer) = of_writing (refusal no_plan_held (0 ∷ [])) buffer
no_plan_reply (reprice T n bytes out) = of_reprice (refusal no_plan_held (0 ∷ [])) out
no_plan_reply (span T) = of_span (refusal no_plan_held (0 ∷ []))
no_plan_reply (spans list) = of_spans (refusal no_plan_held (0 ∷ [])) list
no_plan_reply (nearest T) = of_nearest (refusal no_plan_held (0 ∷ []))

-- two planners that answer every question alike
abbrev pub SameAnswers : (form : ℕ) → Plan → (other : ℕ) → Plan → Type 0
SameAnswers form p other q = (x : Question) → reply form p x ≡ reply other q x

-- saving apart
abbrev pub Saves : Question → Type 0
Saves x = (buffer : List ℕ) × (x ≡ save buffer)

abbrev pub SameButSaving : (form : ℕ) → Plan → (other : ℕ) → Plan → Type 0
SameButSaving form p other q = (x : Question) → (Saves x → ⊥) → reply form p x ≡ reply other q x
