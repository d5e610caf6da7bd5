-- The run from a duration on: where it ends, where it begins, and that these make a span.
use Rattle.std.specs.Prelude.{◌≡◌, Bool, true, ◌&&◌, leb, ltb}
use Rattle.std.proofs.Math.Path.{refl, ap}
use Rattle.std.proofs.Common.{sym, ◌∙◌, le_refl, arith, le-leb, leb-true, lt-ltb, ltb-true}
use Rattle.std.proofs.Math.Bool.{false, not, false≢true, and-eq-true_iff}
use mathlib.Mathlib.Data.Bool.Basic.{eq-false_of_not-eq-true}
use Prim.Native.Nat.{ℕ, zero, suc, pred, ◌+◌, ◌≤◌, ◌<◌}
use Rattle.std.proofs.Math.Decide.{dec_le}
use Rattle.std.proofs.lemmas.Bool.{not-true}
use Rattle.cqf.specs.Plan.{Plan}
use Rattle.cqf.specs.Condition.{admissible, smallest}
use Rattle.span_lists.specs.Span.{Span, Holds, IsSpan, begins, last_from, span_from}
use Rattle.cqf.proofs.laws.Smallest.{smallest_positive, smallest_le, smallest-passes, smallest_below, smallest_is, smallest-none}

module _ (p : Plan) (T : ℕ) where
  refused_test : ℕ → Bool
  refused_test u = leb T u && not (admissible p u)

  last_of : last_from p T ≡ pred (smallest refused_test p.top)
  unfolding last_from refused_test
  last_of = refl

  passes_of : (u : ℕ) → T ≤ u → admissible p u ≡ false → refused_test u ≡ true
  unfolding refused_test
  passes_of u l a = (and-eq-true_iff _ _).1 (le-leb T u l, ap not a)

  -- from T to the last of its run every duration is admissible
  pub last_run : 1 ≤ T → (u : ℕ) → T ≤ u → u ≤ last_from p T → admissible p u ≡ true
  last_run h u l m = go (admissible p u) refl
    where
      go : (x : Bool) → admissible p u ≡ x → x ≡ true
      go true a = refl
      go false a =
          absurd (false≢true
          (sym (smallest_below refused_test p.top u (omega arith) (omega (arith, last_of, smallest_positive refused_test p.top))) ∙ passes_of u l a))

  pub last_high : last_from p T ≤ p.top
  last_high = omega (arith, last_of, smallest_le refused_test p.top)

  -- and the one above it is refused
  pub last_above : suc (last_from p T) ≤ p.top → admissible p (suc (last_from p T)) ≡ false
  unfolding refused_test
  last_above l =
      let e : suc (last_from p T) ≡ smallest refused_test p.top = omega (arith, last_of, smallest_positive refused_test p.top) in
      let t = smallest-passes refused_test p.top (omega arith) in
      rw e (not-true _ ((and-eq-true_iff (leb T (smallest refused_test p.top)) _).0 t).1)

  -- it is at least T where T is admissible
  pub last_from_lem : 1 ≤ T → T ≤ p.top → admissible p T ≡ true → T ≤ last_from p T
  unfolding refused_test
  last_from_lem h upto a = go (dec_le T (last_from p T))
    where
      s : ℕ
      s = smallest refused_test p.top

      go : Dec (T ≤ last_from p T) → T ≤ last_from p T
      go (yes l) = l
      go (no more) =
          let e : s ≤ T = omega (arith, last_of, smallest_positive refused_test p.top) in
          let t = smallest-passes refused_test p.top (omega arith) in
          let b = (and-eq-true_iff (leb T s) (not (admissible p s))).0 t in
          let same : s ≡ T = omega (arith, leb-true T s b.0) in
          absurd (false≢true (sym (not-true _ b.1) ∙ ap (admissible p) same ∙ a))

  -- a run from T that ends at l is all of it
  pub last_is
      : (l : ℕ)
      → 1 ≤ T
      → T ≤ l
      → l ≤ p.top
      → ((u : ℕ) → T ≤ u → u ≤ l → admissible p u ≡ true)
      → (suc l ≤ p.top → admissible p (suc l) ≡ false)
      → last_from p T ≡ l
  unfolding refused_test
  last_is l h from upto run above = go (dec_le (suc l) p.top)
    where
      passed : (u : ℕ) → 1 ≤ u → u < suc l → refused_test u ≡ false
      passed u _ less = eq-false_of_not-eq-true λ e.
          let b = (and-eq-true_iff (leb T u) (not (admissible p u))).0 e in
          false≢true (sym (not-true _ b.1) ∙ run u (leb-true T u b.0) (omega arith))

      go : Dec (suc l ≤ p.top) → last_from p T ≡ l
      go (yes more) =
          omega (arith, last_of, smallest_is refused_test p.top (suc l) (omega arith) more (passes_of (suc l) (omega arith) (above more)) passed)
      go (no less) = omega (arith, last_of, smallest-none refused_test p.top (λ u k m. passed u k (omega arith)))

module _ (p : Plan) where
  -- a span begins at T exactly where T is admissible and the one below it is not, or is 0
  pub begins-admissible : (T : ℕ) → begins p T ≡ true → admissible p T ≡ true
  begins-admissible T e = ((and-eq-true_iff (admissible p T) _).0 e).0

  pub begins_below : (T t : ℕ) → begins p T ≡ true → 1 ≤ t → suc t ≡ T → admissible p t ≡ false
  begins_below T t e low is = eq-false_of_not-eq-true λ a.
      let both = (and-eq-true_iff (ltb 1 T) (admissible p (pred T))).1 (lt-ltb 1 T (omega arith), ap (admissible p) (omega arith) ∙ a) in
      let none = not-true (ltb 1 T && admissible p (pred T)) ((and-eq-true_iff (admissible p T) _).0 e).1 in
      false≢true (sym none ∙ both)

  pub begins_is : (T : ℕ) → 1 ≤ T → admissible p T ≡ true → ((t : ℕ) → 1 ≤ t → suc t ≡ T → admissible p t ≡ false) → begins p T ≡ true
  begins_is T h a edge =
      (and-eq-true_iff _ _).1 (
        a,
        ap not (eq-false_of_not-eq-true λ e.
            let b = (and-eq-true_iff (ltb 1 T) (admissible p (pred T))).0 e in
            let more = ltb-true 1 T b.0 in
            false≢true (sym (edge (pred T) (omega arith) (omega arith)) ∙ b.1)),
      )

  pub begins_not : (T : ℕ) → 1 < T → admissible p (pred T) ≡ true → begins p T ≡ false
  begins_not T more a = eq-false_of_not-eq-true λ e.
      false≢true (sym (begins_below T (pred T) e (omega arith) (omega arith)) ∙ a)

  pub begins_refused : (T : ℕ) → admissible p T ≡ false → begins p T ≡ false
  begins_refused T a = eq-false_of_not-eq-true λ e. false≢true (sym a ∙ begins-admissible T e)

  -- where one begins, the run from there is a span
  pub span_from_lem : (T : ℕ) → 1 ≤ T → T ≤ p.top → begins p T ≡ true → IsSpan p (span_from p T)
  span_from_lem T h upto e =
      record {
        low = h;
        some = last_from_lem p T h upto (begins-admissible T e);
        high = last_high p T;
        run = λ u in-it. last_run p T h u in-it.0 in-it.1;
        below = λ t low is. begins_below T t e low is;
        above = last_above p T;
      }

  module _ {s : Span} (is : IsSpan p s) where
    -- a span begins at its first and is the run from there
    pub span_begins : begins p s.first ≡ true
    span_begins = begins_is s.first is.low (is.run s.first (le_refl _, is.some)) is.below

    pub span_is : span_from p s.first ≡ s
    span_is = let e = last_is p s.first s.last is.low is.some is.high (λ u l m. is.run u (l, m)) is.above in
        ap (λ (l : ℕ). record { first = s.first; last = l }) e

    -- the next one begins at least two above its last
    pub span-next : (T : ℕ) → s.first < T → T ≤ p.top → begins p T ≡ true → s.last + 2 ≤ T
    span-next T more upto e = go (dec_le T s.last) (dec_le T (suc s.last))
      where
        go : Dec (T ≤ s.last) → Dec (T ≤ suc s.last) → s.last + 2 ≤ T
        go (yes l) d =
            absurd (false≢true
            (sym (begins_not T (omega (arith, is.low)) (is.run (pred T) (omega arith, omega arith))) ∙ e))
        go (no l) (yes m) =
            let at : suc s.last ≡ T = omega arith in
            absurd (false≢true (sym (is.above (omega arith)) ∙ ap (admissible p) at ∙ begins-admissible T e))
        go (no l) (no m) = omega arith

  -- a duration above one that a span holds, where both are admissible, is in it too
  held_next : (T : ℕ) {s : Span} → IsSpan p s → Holds s T → suc T ≤ p.top → admissible p (suc T) ≡ true → Holds s (suc T)
  held_next T {s} is in-it upto a = go (dec_le (suc T) s.last)
    where
      go : Dec (suc T ≤ s.last) → Holds s (suc T)
      go (yes l) = (omega (arith, in-it.0), l)
      go (no l) =
          let at : suc s.last ≡ suc T = omega (arith, in-it.1) in
          absurd (false≢true (sym (is.above (omega arith)) ∙ ap (admissible p) at ∙ a))

  -- the span that holds an admissible duration
  pub held : (T : ℕ) → 1 ≤ T → T ≤ p.top → admissible p T ≡ true → (s : Span) × IsSpan p s × Holds s T
  held zero h upto a = absurd (omega arith)
  held (suc T) h upto a = go (begins p (suc T)) refl (λ low b. held T low (omega arith) b)
    where
      go
          : (x : Bool)
          → begins p (suc T) ≡ x
          → (1 ≤ T → admissible p T ≡ true → (s : Span) × IsSpan p s × Holds s T)
          → (s : Span) × IsSpan p s × Holds s (suc T)
      go true e below = (span_from p (suc T), span_from_lem (suc T) h upto e, (le_refl _, last_from_lem p (suc T) h upto a))
      go false e below = grown (dec_le 1 T) (admissible p T) refl
        where
          grown : Dec (1 ≤ T) → (x : Bool) → admissible p T ≡ x → (s : Span) × IsSpan p s × Holds s (suc T)
          grown (no none) x b =
              absurd (false≢true (sym e ∙ begins_is (suc T) h a (λ t low is. absurd (omega arith))))
          grown (yes low) false b =
              absurd (false≢true (sym e ∙ begins_is (suc T) h a (λ t _ is. let same : t ≡ T = omega arith in ap (admissible p) same ∙ b)))
          grown (yes low) true b =
              let s = below low b in
              (s.0, s.1, held_next T s.1 s.2 upto a)
