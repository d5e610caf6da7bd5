-- What the list of a plan's spans is.
use Rattle.std.specs.Prelude.{◌≡◌, refl, ◌↔◌, true, false, ℕ, suc, ◌+◌, ◌≤◌, ◌<◌}
use Rattle.std.proofs.Common.{sym, ap, ◌∙◌, ⊎_elim, le_refl, le_trans, arith}
use Rattle.std.proofs.Math.Path.{subst}
use mathlib.Core.List.Memᴰ
use mathlib.Core.List.{List, [], ◌∷◌, ◌++◌, Memᴰ}
use Rattle.std.proofs.lemmas.Bool.{false≢true}
use mathlib.Mathlib.Data.Bool.Basic.{eq-false_of_not-eq-true}
use Rattle.std.proofs.Math.Decide.{dec_le, dec_lt}
use Rattle.cqf.specs.Plan.{Plan}
use Rattle.cqf.specs.Condition.{admissible, safe_from, least, margin_safe}
use Rattle.span_lists.specs.Span.{Span, Holds, IsSpan, spans, ending_from, Rising, Spans}
use Rattle.cqf.proofs.laws.Smallest.{smallest_positive, smallest_le, smallest-passes, smallest_below, least_of, margin_safe_of, safe_at, safe_every}
use Rattle.span_lists.specs.laws.Runs.{held, span_begins, span-next}
use Rattle.span_lists.specs.laws.SpanList.{spans-rising, spans_each}
use Rattle.span_lists.specs.laws.Ending.{Sound, rising_above, ending_from_lem, ending_in, ending_rising, ending_all, ending_first, rising_last}

module _ (p : Plan) where
  pub spans_sound : Sound (spans p)
  spans_sound s m = ((spans_each p s).0 m).some

  -- a duration from 1 to top that is admissible is in one of them
  found : (T : ℕ) → 1 ≤ T → T ≤ p.top → admissible p T ≡ true → (s : Span) × Memᴰ s (spans p) × Holds s T
  found T h l a = let s = held p T h l a in (s.0, (spans_each p s.0).1 s.1, s.2)

  -- the one above the first of two is refused, and below the other
  parted
      : (s t : Span)
      → IsSpan p s
      → IsSpan p t
      → s.first < t.first
      → (u : ℕ) × (s.last < u) × (u < t.first) × (admissible p u ≡ false)
  parted s t iss ist less =
      let most : t.first ≤ p.top = omega (arith, ist.some, ist.high) in
      let far = span-next p iss t.first less most (span_begins p ist) in
      (suc s.last, le_refl _, omega (arith, far), iss.above (omega (arith, far, most)))

  first_is
      : (T : ℕ) (s : Span)
      → 1 ≤ T
      → IsSpan p s
      → T ≤ s.last
      → ((u : ℕ) → T ≤ u → u < s.first → admissible p u ≡ false)
      → (rest : List Span) × (ending_from T (spans p) ≡ s ∷ rest)
  first_is T s h is l none =
      ending_first T 1 (spans p) s (spans-rising p) spans_sound ((spans_each p s).1 is) l
      (λ x m less. go x ((spans_each p x).0 m) less (dec_lt x.last T))
    where
      go : (x : Span) → IsSpan p x → x.last < s.first → Dec (x.last < T) → x.last < T
      go x isx less (yes k) = k
      go x isx less (no k) =
          absurd (false≢true (sym (none x.last (omega arith) less) ∙ isx.run x.last (isx.some, le_refl _)))

  is_first
      : (T : ℕ) (s : Span)
      → 1 ≤ T
      → (rest : List Span) × (ending_from T (spans p) ≡ s ∷ rest)
      → IsSpan p s × (T ≤ s.last) × ((u : ℕ) → T ≤ u → u < s.first → admissible p u ≡ false)
  unfolding Rising
  is_first T s h r =
      let m = ending_from_lem T (spans p) s (subst (Memᴰ s) (sym r.1) (Memᴰ.head refl)) in
      let is = (spans_each p s).0 m.0 in
      (is, m.1, λ u from less. eq-false_of_not-eq-true (λ a. none is u from less a))
    where
      up : Rising 1 (s ∷ r.0)
      up = subst (Rising 1) r.1 (ending_rising T 1 (spans p) (spans-rising p) spans_sound)

      sound : Sound r.0
      sound x m = spans_sound x (ending_from_lem T (spans p) x (subst (Memᴰ x) (sym r.1) (Memᴰ.tail m))).0

      none : IsSpan p s → (u : ℕ) → T ≤ u → u < s.first → admissible p u ≡ true → ⊥
      none is u from less a =
          let f = found u (le_trans h from) (omega (arith, is.some, is.high)) a in
          let n = ending_in T (spans p) f.0 f.1 (omega (arith, f.2.1)) in
          ⊎_elim
          (λ same. omega (arith, less, f.2.0, ap (λ (z : Span). z.first) same))
          (λ k. omega (arith, less, f.2.0, is.some, rising_above (s.last + 2) r.0 f.0 up.1 sound k))
          (Memᴰ.cases_cons (subst (Memᴰ f.0) r.1 n))

  all : ending_from 1 (spans p) ≡ spans p
  all = ending_all 1 (spans p) (λ s m. let is = (spans_each p s).0 m in omega (arith, is.low, is.some))

  -- the first begins at the least duration
  begins-least : least p ≤ p.top → (last : ℕ) × (rest : List Span) × (spans p ≡ record { first = least p; last = last } ∷ rest)
  begins-least l =
      let low : 1 ≤ least p = rw least_of (smallest_positive (admissible p) p.top) in
      let good : admissible p (least p) ≡ true = rw least_of (smallest-passes (admissible p) p.top (rw least_of at l)) in
      let below : (u : ℕ) → 1 ≤ u → u < least p → admissible p u ≡ false = λ u k less. smallest_below (admissible p) p.top u k (rw least_of at less) in
      let s = held p (least p) low l good in
      let at : s.0.first ≡ least p = at_least_lem s.0 s.1 s.2 below (dec_lt s.0.first (least p)) in
      let r = first_is 1 s.0 (le_refl 1) s.1 (omega (arith, low, s.2.1)) (λ u k less. below u k (omega arith)) in
      (s.0.last, r.0, sym all ∙ r.1 ∙ ap (λ (f : ℕ). record { first = f; last = s.0.last } ∷ r.0) at)
    where
      at_least_lem
          : (s : Span)
          → IsSpan p s
          → Holds s (least p)
          → ((u : ℕ) → 1 ≤ u → u < least p → admissible p u ≡ false)
          → Dec (s.first < least p)
          → s.first ≡ least p
      at_least_lem s is in-it below (yes less) =
          absurd (false≢true (sym (below s.first is.low less) ∙ is.run s.first (le_refl _, is.some)))
      at_least_lem s is in-it below (no k) = omega (arith, in-it.0)

  empty : (spans p ≡ []) ↔ (least p ≡ suc p.top)
  empty = (
    λ e. go e (dec_le (least p) p.top),
    λ e. none_of e (spans p) refl,
  )
    where
      go : spans p ≡ [] → Dec (least p ≤ p.top) → least p ≡ suc p.top
      go e (yes l) = let b = (begins-least l).2 in absurd (let z : ◌≡◌ {A = ℕ} 0 1 = cc in omega arith)
      go e (no l) = omega (arith, least_of p, smallest_le (admissible p) p.top)

      none_of : least p ≡ suc p.top → (ss : List Span) → spans p ≡ ss → spans p ≡ []
      none_of e [] is = is
      none_of e (s ∷ ss) is =
          let span = (spans_each p s).0 (subst (Memᴰ s) (sym is) (Memᴰ.head refl)) in
          let k : s.first < least p = omega (arith, span.some, span.high) in
          absurd (false≢true
          (sym (smallest_below (admissible p) p.top s.first span.low (rw least_of at k))
          ∙ span.run s.first (le_refl _, span.some)))

  -- where there is a margin-safe duration, the last begins there and ends at top
  safe_span : margin_safe p ≤ p.top → IsSpan p (record { first = margin_safe p; last = p.top })
  safe_span l =
      let passed : safe_from p (margin_safe p) ≡ true = rw margin_safe_of (smallest-passes (safe_from p) p.top (rw margin_safe_of at l)) in
      let low : 1 ≤ margin_safe p = rw margin_safe_of (smallest_positive (safe_from p) p.top) in
      record {
        low = low;
        some = l;
        high = le_refl _;
        run = λ u in-it. safe_at p (margin_safe p) u passed in-it.0 in-it.1;
        below = λ t k is. eq-false_of_not-eq-true (λ a. unsafe passed t k is a);
        above = λ k. absurd (omega arith);
      }
    where
      unsafe : safe_from p (margin_safe p) ≡ true → (t : ℕ) → 1 ≤ t → suc t ≡ margin_safe p → admissible p t ≡ true → ⊥
      unsafe passed t k is a =
          let less : t < margin_safe p = omega arith in
          let not = smallest_below (safe_from p) p.top t k (rw margin_safe_of at less) in
          false≢true (sym not ∙ safe_every p t (λ u from upto. go u from upto (dec_le (margin_safe p) u)))
        where
          go : (u : ℕ) → t ≤ u → u ≤ p.top → Dec (margin_safe p ≤ u) → admissible p u ≡ true
          go u from upto (yes k) = safe_at p (margin_safe p) u passed k upto
          go u from upto (no k) = let same : u ≡ t = omega arith in ap (admissible p) same ∙ a

  ends_at_top : margin_safe p ≤ p.top → (rest : List Span) × (spans p ≡ rest ++ (record { first = margin_safe p; last = p.top } ∷ []))
  ends_at_top l =
      rising_last 1 (spans p) (record { first = margin_safe p; last = p.top }) (spans-rising p) spans_sound ((spans_each p _).1 (safe_span l))
      (λ x m. ((spans_each p x).0 m).high)

  none_from : (T : ℕ) → 1 ≤ T → (ending_from T (spans p) ≡ []) ↔ ((u : ℕ) → T ≤ u → u ≤ p.top → admissible p u ≡ false)
  none_from T h = (
    λ e u from upto. eq-false_of_not-eq-true (λ a.
        let f = found u (le_trans h from) upto a in
        Memᴰ.not-nil (subst (Memᴰ f.0) e (ending_in T (spans p) f.0 f.1 (omega (arith, f.2.1))))),
    λ none. go none (ending_from T (spans p)) refl,
  )
    where
      go : ((u : ℕ) → T ≤ u → u ≤ p.top → admissible p u ≡ false) → (ss : List Span) → ending_from T (spans p) ≡ ss → ending_from T (spans p) ≡ []
      go none [] e = e
      go none (s ∷ ss) e =
          let m = ending_from_lem T (spans p) s (subst (Memᴰ s) (sym e) (Memᴰ.head refl)) in
          let is = (spans_each p s).0 m.0 in
          absurd (false≢true (sym (none s.last m.1 is.high) ∙ is.run s.last (is.some, le_refl _)))

  pub spans_are : Spans p (spans p)
  spans_are =
      record {
        each = spans_each p;
        rising = spans-rising p;
        between = λ s t ms mt. parted s t ((spans_each p s).0 ms) ((spans_each p t).0 mt);
        hold = λ T h l. (found T h l, λ s. ((spans_each p s.0).0 s.1).run T s.2);
        least_first = begins-least;
        none = empty;
        safe_last = ends_at_top;
        first_ending = λ T s h. (is_first T s h, λ k. first_is T s h k.0 k.1 k.2);
        none_ending = none_from;
      }
