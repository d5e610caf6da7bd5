-- What a list that is filled one span after the other holds, and the count of the spans.
use Rattle.std.specs.Prelude.{◌≡◌, Bool, get_or, take}
use Rattle.std.proofs.Math.Path.{refl, sym, ap}
use Rattle.std.proofs.Common.{subst, ◌∙◌, add-one, length-set, drop_of_length-le, take-suc, drop-cons, drop-drop}
use Rattle.std.proofs.Math.Bool.{true, false}
use mathlib.Core.List.{List, [], ◌∷◌, ◌++◌, map, Memᴰ, append_assoc, map-append}
use Prim.Native.Nat.{ℕ, zero, suc, ◌+◌, ◌≤◌, ◌<◌}
use Rattle.std.proofs.Math.Nat.{le_refl}
use Rattle.std.proofs.Math.Decide.{dec_lt}
use native.Mathlib.Omega.{arith}
use Rattle.std.proofs.Math.ListN.{length, set, drop, length-map, length-take, length-drop}
use Rattle.std.proofs.Math.Seq.{set_at}
use Rattle.cqf.specs.Plan.{Plan}
use Rattle.span_lists.specs.Span.{Span, begins, span_from, and_where, spans_in, spans, ending_from}
use Rattle.span_lists.specs.results.Theorem.{spans_are, spans_sound}
use Rattle.span_lists.specs.laws.Ending.{ending_all, ending_next, ending_from_lem}
use Rattle.questions.specs.Spans.{record_of, span_of, no_span_of, first_or, next_span}
use Rattle.questions.specs.SpanList.{nth, filled}
use Rattle.questions.specs.declared.one_span.SpanRecord.{SpanRecord}

pub filled_length : (p : Plan) (l : List SpanRecord) (i : ℕ) → length (filled p l i) ≡ length l
unfolding filled
filled_length p l zero = refl
filled_length p l (suc i) = length-set (filled p l i) i (nth p (suc i)) ∙ filled_length p l i

drop_next : (i : ℕ) (ss : List Span) {s : Span} {rest : List Span} → drop i ss ≡ s ∷ rest → drop (suc i) ss ≡ rest
drop_next i ss {s} {rest} e = ap (λ (n : ℕ). drop n ss) (sym (add-one i)) ∙ sym (drop-drop 1 i ss) ∙ ap (drop 1) e

-- the span that follows the first i, or none, and the list with it
module _ (p : Plan) (i : ℕ) {from : ℕ} (at : from ≡ (nth p i).last + 1) where
  pub nth-from : {s : SpanRecord} → span_of s ≡ next_span p from → s ≡ nth p (suc i)
  unfolding nth
  nth-from e = ap record_of (e ∙ ap (next_span p) at)

  pub nth-none : next_span p from ≡ no_span_of → (nth p (suc i)).last ≡ 0
  unfolding nth
  nth-none e = ap (λ (s : Span). s.last) (ap (next_span p) (sym at) ∙ e)

pub filled-next : (p : Plan) (l : List SpanRecord) (i : ℕ) {k : List SpanRecord} {r : SpanRecord} → k ≡ filled p l i → r ≡ nth p (i + 1) → set k i r ≡ filled p l (i + 1)
unfolding filled
filled-next p l i {k} {r} e at =
    ap (λ (k : List SpanRecord). set k i r) e ∙ ap (set (filled p l i) i) (at ∙ ap (nth p) (add-one i)) ∙ ap (filled p l) (sym (add-one i))

module _ (p : Plan) where
  nth-next : (i : ℕ) → nth p (suc i) ≡ record_of (first_or (ending_from ((nth p i).last + 1) (spans p)))
  unfolding nth next_span
  nth-next i = refl

  -- those that end above the i-th are all but the first i
  left : (i : ℕ) → i ≤ length (spans p) → ending_from ((nth p i).last + 1) (spans p) ≡ drop i (spans p)
  unfolding nth
  left zero l = ending_all 1 (spans p) (λ s m. let is = ((spans_are p).each s).0 m in omega (arith, is.low, is.some))
  left (suc i) l = go (drop i (spans p)) refl (left i (omega arith))
    where
      go
          : (ss : List Span)
          → drop i (spans p) ≡ ss
          → ending_from ((nth p i).last + 1) (spans p) ≡ drop i (spans p)
          → ending_from ((nth p (suc i)).last + 1) (spans p) ≡ drop (suc i) (spans p)
      go [] e before = absurd (omega (arith, length-drop i (spans p), ap length e))
      go (s ∷ ss) e before =
          ap (λ (x : SpanRecord). ending_from (x.last + 1) (spans p)) (nth-next i ∙ ap (λ (l : List Span). record_of (first_or l)) (before ∙ e))
          ∙ ending_next ((nth p i).last + 1) 1 (spans p) s ss (spans_are p).rising (spans_sound p) (before ∙ e)
          ∙ sym (drop_next i (spans p) e)

  -- so the one after i of them is the next of the list, or none where these are all
  nth_first : (i : ℕ) → i ≤ length (spans p) → nth p (suc i) ≡ record_of (first_or (drop i (spans p)))
  nth_first i l = nth-next i ∙ ap (λ (ss : List Span). record_of (first_or ss)) (left i l)

  nth-at : (i : ℕ) → i < length (spans p) → nth p (suc i) ≡ record_of (get_or (spans p) i no_span_of)
  nth-at i l = nth_first i (omega arith) ∙ ap (λ (ss : List Span). record_of (first_or ss)) (drop-cons (spans p) i no_span_of l)

  -- it has a last of 0 exactly where these are all
  pub count_ends : (i : ℕ) → i ≤ length (spans p) → (nth p (suc i)).last ≡ 0 → i ≡ length (spans p)
  count_ends i l z = go (dec_lt i (length (spans p)))
    where
      go : Dec (i < length (spans p)) → i ≡ length (spans p)
      go (yes less) =
          let at = left i l ∙ drop-cons (spans p) i no_span_of less in
          let m = ending_from_lem ((nth p i).last + 1) (spans p) (get_or (spans p) i no_span_of) (subst (Memᴰ (get_or (spans p) i no_span_of)) (sym at) (Memᴰ.head refl)) in
          absurd (omega (arith, m.1, z, ap (λ (x : SpanRecord). x.last) (nth-at i less)))
      go (no more) = omega arith

  pub count_goes_on : (i : ℕ) → i ≤ length (spans p) → ((nth p (suc i)).last ≡ 0 → ⊥) → suc i ≤ length (spans p)
  count_goes_on i l some = go (dec_lt i (length (spans p)))
    where
      go : Dec (i < length (spans p)) → suc i ≤ length (spans p)
      go (yes less) = less
      go (no more) =
          let all : i ≡ length (spans p) = omega arith in
          let none : drop i (spans p) ≡ [] = drop_of_length-le (spans p) {i = i} (omega arith) in
          absurd (some (ap (λ (x : SpanRecord). x.last) (nth_first i l ∙ ap (λ (ss : List Span). record_of (first_or ss)) none)))

  -- the list with n of them in front
  pub filled_is : (l : List SpanRecord) (n : ℕ) → n ≤ length (spans p) → n ≤ length l → filled p l n ≡ map record_of (take n (spans p)) ++ drop n l
  unfolding filled
  filled_is l zero a b = refl
  filled_is l (suc n) a b =
      let before = filled_is l n (omega arith) (omega arith) in
      let front = map record_of (take n (spans p)) in
      let long : length front ≡ n = length-map (take n (spans p)) record_of ∙ simp length-take (omega arith) in
      let x = nth p (suc n) in
      ap (λ (k : List SpanRecord). set k n x) (before ∙ ap (λ (k : List SpanRecord). front ++ k) (drop-cons l n (record_of no_span_of) b))
      ∙ set_at front (get_or l n (record_of no_span_of)) (drop (suc n) l) x n long
      ∙ ap (λ (r : SpanRecord). front ++ r ∷ drop (suc n) l) (nth-at n a)
      ∙ sym (append_assoc front (record_of (get_or (spans p) n no_span_of) ∷ []) (drop (suc n) l))
      ∙ ap (λ (k : List SpanRecord). k ++ drop (suc n) l)
      (sym (map-append record_of (take n (spans p)) (get_or (spans p) n no_span_of ∷ [])) ∙ ap (map record_of) (sym (take-suc (spans p) n no_span_of a)))

  -- there are no more spans than durations
  in_most : (n T : ℕ) → length (spans_in p n T) ≤ n
  unfolding spans_in
  in_most zero T = le_refl 0
  in_most (suc n) T = go (begins p T) (in_most n (suc T))
    where
      go : (b : Bool) → length (spans_in p n (suc T)) ≤ n → length (and_where b (span_from p T) (spans_in p n (suc T))) ≤ suc n
      go true l = omega arith
      go false l = omega arith

  pub spans_most : length (spans p) ≤ p.top
  unfolding spans
  spans_most = in_most p.top 1
