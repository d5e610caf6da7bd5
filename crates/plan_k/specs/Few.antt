-- What is answered of a valid plan with few ports and flows, by those alone.
use Rattle.std.specs.Prelude.{◌≡◌, true, ◌&&◌, List, [], ◌∷◌, ◌++◌, map, ℕ, suc, ◌-◌, ◌<◌, eqb, length, ℤ}
use Rattle.std.proofs.Math.Path.{refl, ap, fun_ext}
use Rattle.std.proofs.Common.{ap₂}
use Rattle.std.proofs.Math.Bool.{cond}
use Rattle.std.proofs.Math.Dec.{leb}
use Rattle.std.proofs.Math.ListN.{drop}
use Rattle.std.proofs.Math.IntN.{sub_ℕ}
use Rattle.cqf.specs.Bounded.{within, any_to, lowest}
use Rattle.cqf.specs.Limits.{port_slots, port_ok}
use Rattle.cqf.specs.Plan.{Plan, crosses, valid_plan}
use Rattle.cqf.specs.Port.{capacity, workload}
use Rattle.cqf.specs.Condition.{admissible}
use Rattle.cqf.specs.Reprice.{with_length, replaced, repriced}
use Rattle.cqf.proofs.laws.Few.{Few, few_length, demand_in, fails_in, failing_in, largest_need_in, slack-few, crossed-few, failing-few, admissible-few, lowest-few}
use Rattle.cqf.proofs.laws.FewSteps.{iterate_by, iterate-few}
use Rattle.span_lists.specs.Span.{spans, ending_from}
use Rattle.answers.specs.Answer.{Answer, result, refusal}
use Rattle.answers.specs.Refusals.{bad_duration, short_buffer, no_plan_held, not_admissible, not_crossed}
use Rattle.questions.specs.Outcome.{asked, failing_at, check_answer, slack_answer}
use Rattle.questions.specs.FixedPoint.{outcome_answer, fixed_point_answer}
use Rattle.questions.specs.Reprice.{change_answer, reprice_answer, written_over, reprice_leaves}
use Rattle.questions.specs.Spans.{record_of, first_answer, span_answer, spans_answer, spans_leaves}
use Rattle.questions.specs.declared.one_span.SpanRecord.{SpanRecord}
use Rattle.gate_writing.specs.Gates.{list_answer, gates_answer}

-- 10, then what the question says
abbrev pub in_range : {A : Type 0} → Plan → ℕ → Answer A → Answer A
in_range p T answer = cond (within 1 p.top T) answer (refusal bad_duration (0 ∷ []))

-- 21 with the lowest of the ports that fail and how many do, or what is said of an admissible duration
abbrev pub judged_in : {A : Type 0} → (m n : ℕ) → Plan → ℕ → Answer A → Answer A
judged_in m n p T good =
    cond (eqb (failing_in m n p T) 0) good (refusal not_admissible (suc (lowest port_slots (fails_in n p T)) ∷ failing_in m n p T ∷ []))

-- the slack of a port
abbrev pub slack_in : (n : ℕ) → Plan → (port T : ℕ) → Answer ℤ
slack_in n p port T =
    cond (port_ok port && any_to n (λ f. crosses p f (port - 1)))
    (result (sub_ℕ (capacity p (port - 1) T) (workload p (port - 1) (demand_in n p (port - 1) T))))
    (refusal not_crossed (0 ∷ []))

module _ {m n : ℕ} {p : Plan} (small : Few m n p) (valid : valid_plan p ≡ true) where
  asked-few : {A : Type 0} (T : ℕ) {a b : Answer A} → a ≡ b → asked p T a ≡ in_range p T b
  asked-few T e = ap₂ (λ v a. cond v (in_range p T a) (refusal no_plan_held (0 ∷ []))) valid e

  judged_few : {A : Type 0} (T : ℕ) (good : Answer A) → cond (admissible p T) good (failing_at not_admissible p T) ≡ judged_in m n p T good
  judged_few T good =
      ap₂ (λ a r. cond a good r) (admissible-few small T)
      (ap₂ (λ port count. refusal not_admissible (port ∷ count ∷ [])) (lowest-few small T) (failing-few small T))

  pub check_few : (T : ℕ) → check_answer p T ≡ in_range p T (judged_in m n p T (result tt))
  unfolding check_answer
  check_few T = asked-few T (judged_few T (result tt))

  pub slack_answer_few : (port T : ℕ) → slack_answer p port T ≡ in_range p T (slack_in n p port T)
  unfolding slack_answer
  slack_answer_few port T =
      asked-few T
      (ap₂ (λ c z. cond (port_ok port && c) (result z) (refusal not_crossed (0 ∷ []))) (crossed-few small (port - 1)) (slack-few small (port - 1) T))

  pub steps_answer_few
      : (start steps : ℕ)
      → fixed_point_answer p start steps ≡ in_range p start (outcome_answer p steps (iterate_by (largest_need_in m n p) p.top start steps))
  unfolding fixed_point_answer
  steps_answer_few start steps = asked-few start (ap (outcome_answer p steps) (iterate-few small start steps))

  pub gates_few
      : (T even odd : ℕ) (buffer : List ℕ)
      → gates_answer p T even odd buffer ≡ in_range p T (judged_in m n p T (list_answer p T even odd buffer))
  unfolding gates_answer
  gates_few T even odd buffer = asked-few T (judged_few T (list_answer p T even odd buffer))

  pub reprice_few : (T flow bytes : ℕ) (out : List ℤ) → reprice_answer p T flow bytes out ≡ in_range p T (change_answer p flow bytes out)
  unfolding reprice_answer
  reprice_few T flow bytes out = asked-few T refl

  pub reprice_leaves_few
      : (T flow bytes : ℕ) (out : List ℤ)
      → reprice_leaves p T flow bytes out ≡ written_over (repriced p T (flow - 1) bytes out) out (in_range p T (change_answer p flow bytes out))
  unfolding reprice_leaves
  reprice_leaves_few T flow bytes out = ap (written_over (repriced p T (flow - 1) bytes out) out) (reprice_few T flow bytes out)

  pub repriced-few
      : (T f bytes : ℕ) (out : List ℤ)
      → f < n
      → repriced p T f bytes out
      ≡ replaced (crosses p f) (λ q. let c = with_length p f bytes in sub_ℕ (capacity c q T) (workload c q (demand_in n c q T))) out
  unfolding repriced
  repriced-few T f bytes out less = ap (λ slacks. replaced (crosses p f) slacks out) (fun_ext (λ q. slack-few (few_length small f bytes less) q T))

  pub span-few : (T : ℕ) → span_answer p T ≡ in_range p T (first_answer (ending_from T (spans p)))
  unfolding span_answer
  span-few T = asked-few T refl

  pub spans-few
      : (size : ℕ)
      → spans_answer p size ≡ cond (leb (length (spans p)) size) (result (length (spans p))) (refusal short_buffer (length (spans p) ∷ []))
  unfolding spans_answer
  spans-few size = ap (λ v. cond v (cond (leb (length (spans p)) size) (result (length (spans p))) (refusal short_buffer (length (spans p) ∷ []))) (refusal no_plan_held (0 ∷ []))) valid

  pub spans_leaves_few
      : (list : List SpanRecord)
      → spans_leaves p list ≡ cond (leb (length (spans p)) (length list)) (map record_of (spans p) ++ drop (length (spans p)) list) list
  unfolding spans_leaves
  spans_leaves_few list = ap (λ v. cond (v && leb (length (spans p)) (length list)) (map record_of (spans p) ++ drop (length (spans p)) list) list) valid
