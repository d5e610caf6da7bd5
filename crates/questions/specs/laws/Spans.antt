-- One span: how it is put together, and the answers case by case.
use Rattle.std.specs.Prelude.{Option, Some, None, IsSome, ◌≡◌, ◌↔◌, true, false, ℕ, suc, ◌≤◌, ◌<◌}
use Rattle.std.proofs.Math.Path.{refl}
use Rattle.std.proofs.Common.{sym, ap, subst, ◌∙◌, le_refl, le_trans, arith}
use Rattle.std.proofs.lemmas.Bool.{false≢true}
use mathlib.Core.List.{List, [], ◌∷◌, Memᴰ}
use Rattle.std.proofs.Math.Decide.{dec_lt}
use Rattle.cqf.specs.Bounded.{within}
use Rattle.cqf.specs.Plan.{Plan, valid_plan}
use Rattle.cqf.specs.Condition.{admissible}
use Rattle.cqf.specs.Need.{least_from}
use Rattle.span_lists.specs.Span.{Span, IsSpan, last_from, spans, ending_from}
use Rattle.span_lists.specs.results.Theorem.{spans_are}
use Rattle.cqf.proofs.laws.LeastFrom.{least_from_admissible, least_from_above}
use Rattle.span_lists.specs.laws.Runs.{last_run, last_high, last_above, last_from_lem}
use Rattle.span_lists.specs.laws.Ending.{ending_from_lem}
use Rattle.answers.specs.Answer.{result, refusal}
use Rattle.answers.specs.Refusals.{bad_duration, no_plan_held, no_span_from}
use Rattle.questions.specs.Outcome.{asked}
use Rattle.questions.specs.declared.one_span.SpanRecord.{SpanRecord}
use Rattle.questions.specs.Run.{RunDown, FirstOf}
use Rattle.questions.specs.Spans.{IsNext, span_of, no_span_of, first_answer, first_or, next_span, span_answer}

-- the first of a run: the least admissible duration itself where it is above T, and otherwise one above the refused one below it
pub first_start : (p : Plan) (T start : ℕ) → 1 ≤ T → T < start → FirstOf p T start start
first_start p T start h less =
    record {
      low = omega arith;
      upto = le_refl _;
      run = λ none u l m. absurd (omega arith);
      below = λ none t l is. none t (omega arith) (omega arith);
    }

pub first_below : (p : Plan) (T start r : ℕ) → 1 ≤ start → RunDown p 1 start r → admissible p start ≡ true → FirstOf p T start (suc r)
first_below p T start r h d a =
    record {
      low = omega arith;
      upto = above (dec_lt r start);
      run = λ none u l m. d.run u l (omega arith);
      below = λ none t l is. let same : t ≡ r = omega arith in ap (admissible p) same ∙ d.refused (omega arith);
    }
  where
    above : Dec (r < start) → suc r ≤ start
    above (yes l) = l
    above (no l) =
        let same : r ≡ start = omega (arith, d.upto) in
        absurd (false≢true (sym (d.refused (omega arith)) ∙ ap (admissible p) same ∙ a))

-- what the code answers, without a span and with one
pub is_none : {p : Plan} {T : ℕ} → next_span p T ≡ no_span_of → IsNext p T None
is_none e = record { none = λ _. e; some = λ s is. cc }

pub is_some : {p : Plan} {T : ℕ} {s : SpanRecord} → span_of s ≡ next_span p T → 1 ≤ s.last → s.last ≤ p.top → IsNext p T (Some s)
is_some {p} {T} {s} e low high =
    let P : SpanRecord → Type 0 = λ r. (span_of r ≡ next_span p T) × (1 ≤ r.last) × (r.last ≤ p.top) in
    let here : P s = (e, low, high) in
    record { none = λ is. cc; some = λ r is. let same : s ≡ r = cc in subst P same here }

pub next_some : {p : Plan} {T : ℕ} (r : Option SpanRecord) → IsNext p T r → (next_span p T ≡ no_span_of → ⊥) → IsSome r
next_some None k h = absurd (h (k.none refl))
next_some (Some s) k h = refl

module _ (p : Plan) (T : ℕ) (low : 1 ≤ T) where
  next_is : next_span p T ≡ first_or (ending_from T (spans p))
  unfolding next_span
  next_is = refl

  -- nothing from T to top is admissible
  pub next-none : p.top < least_from p T → next_span p T ≡ no_span_of
  next-none above = next_is ∙ ap first_or (((spans_are p).none_ending T low).1 (λ u from upto. least_from_above p T low above u from upto))

  pub next_above : p.top < T → next_span p T ≡ no_span_of
  next_above above = next_is ∙ ap first_or (((spans_are p).none_ending T low).1 (λ u from upto. absurd (omega arith)))

  -- the run that holds the least admissible duration from T on
  pub next-found : (first : ℕ) → least_from p T ≤ p.top → FirstOf p T (least_from p T) first → next_span p T ≡ record { first = first; last = last_from p (least_from p T) }
  next-found first upto f =
      let a = least_from_admissible p T low upto in
      let start = least_from p T in
      let from : 1 ≤ start = le_trans low a.from in
      let some = last_from_lem p start from upto a.good in
      let is : IsSpan p (record { first = first; last = last_from p start }) =
      record {
        low = f.low;
        some = omega (arith, f.upto, some);
        high = last_high p start;
        run = λ u in-it. in_run u in-it.0 in-it.1 (dec_lt u start);
        below = λ t l e. f.below a.first t l e;
        above = last_above p start;
      } in
      let r = ((spans_are p).first_ending T _ low).1 (is, omega (arith, a.from, some), λ u l less. a.first u l (omega (arith, f.upto, less))) in
      next_is ∙ ap first_or r.1
    where
      in_run : (u : ℕ) → first ≤ u → u ≤ last_from p (least_from p T) → Dec (u < least_from p T) → admissible p u ≡ true
      in_run u l m (yes less) = f.run (least_from_admissible p T low upto).first u l less
      in_run u l m (no more) =
          last_run p (least_from p T) (le_trans low (least_from_admissible p T low upto).from) u (omega arith) m

  -- no span has a last of 0
  first_none : (ss : List Span) → ending_from T (spans p) ≡ ss → (first_or ss).last ≡ 0 → first_answer ss ≡ refusal no_span_from (0 ∷ [])
  first_none [] e z = refl
  first_none (s ∷ ss) e z =
      let m = ending_from_lem T (spans p) s (subst (Memᴰ s) (sym e) (Memᴰ.head refl)) in
      absurd (omega (arith, m.1, z))

  first_some : (ss : List Span) → ((first_or ss).last ≡ 0 → ⊥) → first_answer ss ≡ result (first_or ss)
  first_some [] z = absurd (z refl)
  first_some (s ∷ ss) z = refl

-- the answer of the question for one span
module _ (p : Plan) (T : ℕ) where
  span_is : span_answer p T ≡ asked p T (first_answer (ending_from T (spans p)))
  unfolding span_answer
  span_is = refl

  pub span_none : valid_plan p ≡ false → span_answer p T ≡ refusal no_plan_held (0 ∷ [])
  span_none e = span_is ∙ rw e

  pub span_out : valid_plan p ≡ true → within 1 p.top T ≡ false → span_answer p T ≡ refusal bad_duration (0 ∷ [])
  span_out e out = span_is ∙ rw (e, out)

  module _ (valid : valid_plan p ≡ true) (ranged : within 1 p.top T ≡ true) (low : 1 ≤ T) where
    asked_is : span_answer p T ≡ first_answer (ending_from T (spans p))
    asked_is = span_is ∙ rw (valid, ranged)

    pub span_no : {s : Span} → s ≡ next_span p T → s.last ≡ 0 → span_answer p T ≡ refusal no_span_from (0 ∷ [])
    span_no {s} e z =
        asked_is ∙ first_none p T low (ending_from T (spans p)) refl (ap (λ (x : Span). x.last) (sym (next_is p T low)) ∙ ap (λ (x : Span). x.last) (sym e) ∙ z)

    pub span_yes : {s : Span} → s ≡ next_span p T → (s.last ≡ 0 → ⊥) → span_answer p T ≡ result s
    span_yes {s} e z =
        asked_is
        ∙ first_some p T low (ending_from T (spans p)) (λ y. z (ap (λ (x : Span). x.last) (e ∙ next_is p T low) ∙ y))
        ∙ ap result (sym (next_is p T low) ∙ sym e)

-- what the answer means, of a valid plan and a duration from 1 to top
module _ (p : Plan) (T : ℕ) (valid : valid_plan p ≡ true) (ranged : within 1 p.top T ≡ true) (low : 1 ≤ T) where
  first_result : (ss : List Span) (s : Span) → first_answer ss ≡ result s → (rest : List Span) × (ss ≡ s ∷ rest)
  first_result [] s e = absurd (let z : ◌≡◌ {A = ℕ} 0 1 = cc in omega arith)
  first_result (x ∷ xs) s e = let same : x ≡ s = cc in (xs, ap (λ (y : Span). y ∷ xs) same)

  first_refusal : (ss : List Span) → first_answer ss ≡ refusal no_span_from (0 ∷ []) → ss ≡ []
  first_refusal [] e = refl
  first_refusal (x ∷ xs) e = absurd (let z : ◌≡◌ {A = ℕ} 0 1 = cc in omega arith)

  pub span_result : (s : Span) → (span_answer p T ≡ result s) ↔ (IsSpan p s × (T ≤ s.last) × ((u : ℕ) → T ≤ u → u < s.first → admissible p u ≡ false))
  span_result s = (
    λ e. ((spans_are p).first_ending T s low).0 (first_result (ending_from T (spans p)) s (sym (asked_is p T valid ranged low) ∙ e)),
    λ k. let r = ((spans_are p).first_ending T s low).1 k in asked_is p T valid ranged low ∙ ap first_answer r.1,
  )

  pub span_refusal : (span_answer p T ≡ refusal no_span_from (0 ∷ [])) ↔ ((u : ℕ) → T ≤ u → u ≤ p.top → admissible p u ≡ false)
  span_refusal = (
    λ e. ((spans_are p).none_ending T low).0 (first_refusal (ending_from T (spans p)) (sym (asked_is p T valid ranged low) ∙ e)),
    λ k. asked_is p T valid ranged low ∙ ap first_answer (((spans_are p).none_ending T low).1 k),
  )
