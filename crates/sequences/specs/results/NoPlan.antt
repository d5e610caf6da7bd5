-- The refusal 20, over sequences of calls: no load was accepted exactly when each question is answered 20 with 0 and leaves what it
-- was lent as it was.
use Rattle.std.specs.Prelude.{◌≡◌, refl, ◌↔◌, Bool, true, false, cond, List, ℕ}
use Rattle.std.proofs.Common.{sym, ap, ap₂, ◌∙◌, arith, le-leb}
use Rattle.std.proofs.Math.Option.{Option, none, some}
use Rattle.cqf.specs.Form.{form_from}
use Rattle.cqf.specs.Bounded.{within}
use Rattle.cqf.specs.Plan.{Plan, valid_plan}
use Rattle.cqf.specs.Condition.{admissible, least, margin_safe}
use Rattle.cqf.proofs.laws.Ranges.{top_positive}
use Rattle.plan_reading.specs.laws.validity.Valid.{accepted_valid}
use Rattle.answers.specs.Answer.{result, refusal_number}
use Rattle.answers.specs.Refusals.{no_plan_held, not_admissible, no_least, no_margin_safe}
use Rattle.questions.specs.Outcome.{failing_at}
use Rattle.sequences.specs.Calls as Calls
use Rattle.sequences.specs.Calls.{Call, Question, after, form_after, held_bytes}
use Rattle.sequences.specs.Reply.{Reply, of_check, of_slack, of_search, of_fixed_point, of_writing, of_reprice, of_span, of_spans, of_nearest, reply, no_plan_reply}
use Rattle.questions.specs.laws.Answers
use Rattle.questions.specs.laws.Answers.{check_none, slack-none, fixed_point_none, check_within}
use Rattle.sequences.specs.laws.Calls.{after_none, after-loaded}
use Rattle.saving.specs.laws.Saved.{save_none, save_keeps}
use Rattle.gate_writing.specs.laws.Gates.{gates_none, gates_keeps}
use Rattle.questions.specs.laws.Reprice.{reprice_none}
use Rattle.questions.specs.laws.Spans.{span_none}
use Rattle.questions.specs.laws.Counted.{spans-none, spans_keeps}
use Rattle.questions.specs.laws.Nearest.{nearest-none}
use Rattle.questions.specs.laws.Searched.{ends_no_plan, least_ends, margin_safe_ends}
use Rattle.questions.specs.laws.Leanly.{lean_no_plan, lean_least_ends, lean_margin_safe_ends}

-- tables that are not valid
answers_none : (form : ℕ) (p : Plan) → valid_plan p ≡ false → (x : Question) → reply form p x ≡ no_plan_reply x
answers_none form p e (Calls.check T) = ap of_check (check_none p T e)
answers_none form p e (Calls.slack n T) = ap of_slack (slack-none p n T e)
answers_none form p e (Calls.least scratch) =
    let h = least_ends p scratch (ends_no_plan no_least least p scratch e) in
    ap₂ of_search (sym h.0) (sym h.1)
answers_none form p e (Calls.margin_safe scratch) =
    let h = margin_safe_ends p scratch (ends_no_plan no_margin_safe margin_safe p scratch e) in
    ap₂ of_search (sym h.0) (sym h.1)
answers_none form p e (Calls.lean_least scratch) =
    let h = lean_least_ends p scratch (lean_no_plan no_least least p scratch e) in
    ap₂ of_search (sym h.0) (sym h.1)
answers_none form p e (Calls.lean_margin_safe scratch) =
    let h = lean_margin_safe_ends p scratch (lean_no_plan no_margin_safe margin_safe p scratch e) in
    ap₂ of_search (sym h.0) (sym h.1)
answers_none form p e (Calls.fixed_point start steps) = ap of_fixed_point (fixed_point_none p start steps e)
answers_none form p e (Calls.save buffer) = ap₂ of_writing (save_none (form_from form) p buffer e) (save_keeps (form_from form) p buffer e)
answers_none form p e (Calls.gates T even odd buffer) =
    ap₂ of_writing (gates_none p T even odd buffer e) (gates_keeps p T even odd buffer e)
answers_none form p e (Calls.reprice T n bytes out) =
    let h = reprice_none p T n bytes out e in
    ap₂ of_reprice (sym h.0) (sym h.1)
answers_none form p e (Calls.span T) = ap of_span (span_none p T e)
answers_none form p e (Calls.spans list) = ap₂ of_spans (spans-none p _ e) (spans_keeps p list e)
answers_none form p e (Calls.nearest T) = ap of_nearest (nearest-none p T e)

-- a valid plan is not refused 20 at 1 ns
verdict_number : Reply → ℕ
verdict_number (of_check answer) = refusal_number answer
verdict_number (of_slack answer) = 0
verdict_number (of_search answer scratch) = 0
verdict_number (of_fixed_point answer) = 0
verdict_number (of_writing answer buffer) = 0
verdict_number (of_reprice answer out) = 0
verdict_number (of_span answer) = 0
verdict_number (of_spans answer list) = 0
verdict_number (of_nearest answer) = 0

answers_some : (form : ℕ) (p : Plan) → valid_plan p ≡ true → reply form p (Calls.check 1) ≡ no_plan_reply (Calls.check 1) → ⊥
unfolding verdict_number
answers_some form p valid e = go (admissible p 1) (sym (ap refusal_number (check_within p 1 valid ranged)) ∙ ap verdict_number e)
  where
    ranged : within 1 p.top 1 ≡ true
    ranged = rw (le-leb 1 p.top (top_positive p valid))

    go : (b : Bool) → refusal_number {A = Unit {0}} (cond b (result tt) (failing_at not_admissible p 1)) ≡ no_plan_held → ⊥
    go true h = let z : ◌≡◌ {A = ℕ} 0 20 = h in absurd (omega arith)
    go false h = let z : ◌≡◌ {A = ℕ} 21 20 = h in absurd (omega arith)

pub no_plan : (calls : List Call) → held_bytes calls ≡ none ↔ ((x : Question) → reply (form_after calls) (after calls) x ≡ no_plan_reply x)
no_plan calls = (λ e. answers_none (form_after calls) (after calls) (after_none calls e), back (held_bytes calls) refl)
  where
    back : (held : Option (List ℕ)) → held_bytes calls ≡ held → ((x : Question) → reply (form_after calls) (after calls) x ≡ no_plan_reply x) → held_bytes calls ≡ none
    back none e h = e
    back (some s) e h =
        let l = after-loaded calls s e in
        absurd (answers_some (form_after calls) (after calls) (accepted_valid s (after calls) l.ports l.flows l.reads) (h (Calls.check 1)))
