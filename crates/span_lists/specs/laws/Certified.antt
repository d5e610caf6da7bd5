-- All spans of a plan, shown by a few evaluations: runs by pieces, gaps by climbs.
use Rattle.std.specs.Prelude.{◌≡◌, Bool, ◌&&◌, ℕ, suc, ◌-◌, ◌≤◌, ◌<◌, ltb}
use Rattle.std.proofs.Common.{sym, ◌∙◌, le_refl, add-one, arith}
use Rattle.std.proofs.Math.Path.{ap}
use Rattle.std.proofs.Math.Bool.{true, false, and-eq-true_iff}
use mathlib.Core.List.{List, [], ◌∷◌, map}
use Rattle.std.proofs.Math.Decide.{dec_lt, dec_le}
use Rattle.std.proofs.Math.Dec.{leb}
use borrow.Author.Tests.{leb-true, ltb-true}
use Rattle.cqf.specs.Plan.{Plan, valid_plan}
use Rattle.cqf.specs.Condition.{admissible}
use Rattle.cqf.specs.Need.{largest_need}
use Rattle.span_lists.specs.Span.{Span, IsSpan, spans, ending_from}
use Rattle.span_lists.specs.results.Theorem.{spans_are, spans_sound}
use Rattle.span_lists.specs.laws.Ending.{ending_all, ending_next}
use Rattle.cqf.proofs.laws.LeastFrom.{least_from_above}
use Rattle.cqf.proofs.laws.Search.{Ascended, ascent_start, ascent_next, ascent_over}
use Rattle.span_lists.specs.laws.Pieces.{piece}

-- all from first to last are admissible, by pieces from last downwards: the start of each is no less than the largest need at its end
unfoldable pub runs : Plan → (first last : ℕ) → (starts : List ℕ) → Bool
runs p first last [] = ltb last first
runs p first last (m ∷ ms) = (ltb 0 m && leb (largest_need p last) m) && runs p first (m - 1) ms

-- all from first to last are refused, by climbs from first upwards: the end of each is no more than the largest need at its start
unfoldable pub refuses : Plan → (first last : ℕ) → (ends : List ℕ) → Bool
refuses p first last [] = ltb last first
refuses p first last (m ∷ ms) = (ltb first m && leb m (largest_need p first)) && refuses p m last ms

module _ (p : Plan) (valid : valid_plan p ≡ true) where
  pub runs_all : (first last : ℕ) (ms : List ℕ) → runs p first last ms ≡ true → (u : ℕ) → first ≤ u → u ≤ last → admissible p u ≡ true
  unfolding runs
  runs_all first last [] e u l m = absurd (omega (arith, ltb-true last first e, l, m))
  runs_all first last (k ∷ ks) e u l m =
      let a = (and-eq-true_iff (ltb 0 k && leb (largest_need p last) k) (runs p first (k - 1) ks)).0 e in
      let b = (and-eq-true_iff (ltb 0 k) (leb (largest_need p last) k)).0 a.0 in
      go (ltb-true 0 k b.0) (leb-true (largest_need p last) k b.1) (λ n. runs_all first (k - 1) ks a.1 u l n) (dec_le k u)
    where
      go : 0 < k → largest_need p last ≤ k → (u ≤ k - 1 → admissible p u ≡ true) → Dec (k ≤ u) → admissible p u ≡ true
      go low need more (yes n) = piece p valid k last u low need n m
      go low need more (no n) = more (omega arith)

  climbed : (first k : ℕ) → 1 ≤ first → first ≤ p.top → first < k → k ≤ largest_need p first → (u : ℕ) → first ≤ u → u < k → u ≤ p.top → admissible p u ≡ false
  climbed first k low upto less need u l m top = go (dec_le (largest_need p first) p.top)
    where
      s : Ascended p first first
      s = ascent_start p valid first low upto

      go : Dec (largest_need p first ≤ p.top) → admissible p u ≡ false
      go (yes within) = (ascent_next p valid s (omega arith) within).none u l (omega arith)
      go (no over) =
          least_from_above p first low (omega (arith, ascent_over p valid s (omega arith) (omega arith))) u l top

  pub refuses_all
      : (first last : ℕ) (ms : List ℕ)
      → 1 ≤ first
      → refuses p first last ms ≡ true
      → (u : ℕ)
      → first ≤ u
      → u ≤ last
      → u ≤ p.top
      → admissible p u ≡ false
  unfolding refuses
  refuses_all first last [] low e u l m top = absurd (omega (arith, ltb-true last first e, l, m))
  refuses_all first last (k ∷ ks) low e u l m top =
      let a = (and-eq-true_iff (ltb first k && leb k (largest_need p first)) (refuses p k last ks)).0 e in
      let b = (and-eq-true_iff (ltb first k) (leb k (largest_need p first))).0 a.0 in
      let less = ltb-true first k b.0 in
      go less (leb-true k (largest_need p first) b.1) (λ n. refuses_all k last ks (omega arith) a.1 u n m top) (dec_lt u k)
    where
      go : first < k → k ≤ largest_need p first → (k ≤ u → admissible p u ≡ false) → Dec (u < k) → admissible p u ≡ false
      go less need more (yes n) = climbed first k low (omega arith) less need u l n top
      go less need more (no n) = more (omega arith)

-- A span by numbers: its first and last, the ends of the climbs over the refused durations before it, and the starts of its pieces
-- from its last downwards.
pub record Shown : Type 0 where
  pub gap : List ℕ
  pub first : ℕ
  pub last : ℕ
  pub starts : List ℕ

abbrev pub span_of : Shown → Span
span_of c = record { first = c.first; last = c.last }

-- it begins above T and ends by top
abbrev placed : Plan → (T : ℕ) → Shown → Bool
placed p T c = ltb T c.first && leb c.first c.last && leb c.last p.top

-- from T to top these are all spans: before each one is a gap, and a gap stands behind the last unless it ends at top
unfoldable pub shows : Plan → (T : ℕ) → List Shown → (behind : List ℕ) → Bool
unfolding runs refuses
shows p T [] behind = refuses p T p.top behind
shows p T (c ∷ cs) behind =
    placed p T c
    && (refuses p T (c.first - 1) c.gap && runs p c.first c.last c.starts)
    && shows p (suc c.last) cs behind

module _ (p : Plan) (valid : valid_plan p ≡ true) (behind : List ℕ) where
  -- what was tested of the first span
  record Tested (T : ℕ) (c : Shown) (cs : List Shown) : Type 0 where
    from : T < c.first
    some : c.first ≤ c.last
    high : c.last ≤ p.top
    gap : refuses p T (c.first - 1) c.gap ≡ true
    run : runs p c.first c.last c.starts ≡ true
    rest : shows p (suc c.last) cs behind ≡ true

  tested : (T : ℕ) (c : Shown) (cs : List Shown) → shows p T (c ∷ cs) behind ≡ true → Tested T c cs
  unfolding shows
  tested T c cs e =
      let a = (and-eq-true_iff (placed p T c && (refuses p T (c.first - 1) c.gap && runs p c.first c.last c.starts)) _).0 e in
      let b = (and-eq-true_iff (placed p T c) _).0 a.0 in
      let d = (and-eq-true_iff (ltb T c.first && leb c.first c.last) _).0 b.0 in
      let f = (and-eq-true_iff (ltb T c.first) _).0 d.0 in
      let g = (and-eq-true_iff (refuses p T (c.first - 1) c.gap) _).0 b.1 in
      record {
        from = ltb-true T c.first f.0;
        some = leb-true c.first c.last f.1;
        high = leb-true c.last p.top d.1;
        gap = g.0;
        run = g.1;
        rest = a.1;
      }

  -- T itself is refused
  start_refused : (T : ℕ) (cs : List Shown) → 1 ≤ T → shows p T cs behind ≡ true → T ≤ p.top → admissible p T ≡ false
  unfolding shows
  start_refused T [] low e upto = refuses_all p valid T p.top behind low e T (le_refl T) upto upto
  start_refused T (c ∷ cs) low e upto =
      let t = tested T c cs e in
      refuses_all p valid T (c.first - 1) c.gap low t.gap T (le_refl T) (omega (arith, t.from)) upto

  -- so these are the spans that end at T or later
  pub shown_from : (T : ℕ) (cs : List Shown) → 1 ≤ T → shows p T cs behind ≡ true → ending_from T (spans p) ≡ map span_of cs
  unfolding shows
  shown_from T [] low e = ((spans_are p).none_ending T low).1 (λ u from upto. refuses_all p valid T p.top behind low e u from upto upto)
  shown_from T (c ∷ cs) low e =
      let t = tested T c cs e in
      let is : IsSpan p (span_of c) =
      record {
        low = omega (arith, t.from);
        some = t.some;
        high = t.high;
        run = λ u in-it. runs_all p valid c.first c.last c.starts t.run u in-it.0 in-it.1;
        below = λ u l at. refuses_all p valid T (c.first - 1) c.gap low t.gap u (omega (arith, t.from, at)) (omega (arith, at)) (omega (arith, at, t.some, t.high));
        above = λ l. start_refused (suc c.last) cs (omega arith) t.rest l;
      } in
      let gap : (u : ℕ) → T ≤ u → u < c.first → admissible p u ≡ false =
      λ u l m. refuses_all p valid T (c.first - 1) c.gap low t.gap u l (omega arith) (omega (arith, m, t.some, t.high)) in
      let r = ((spans_are p).first_ending T (span_of c) low).1 (is, omega (arith, t.from, t.some), gap) in
      let next = ending_next T 1 (spans p) (span_of c) r.0 (spans_are p).rising (spans_sound p) r.1 in
      r.1
      ∙ ap (λ (k : List Span). span_of c ∷ k)
      (sym next ∙ ap (λ (n : ℕ). ending_from n (spans p)) (add-one c.last) ∙ shown_from (suc c.last) cs (omega arith) t.rest)

  -- and from 1 on all of them
  pub shown : (cs : List Shown) → shows p 1 cs behind ≡ true → spans p ≡ map span_of cs
  shown cs e =
      sym (ending_all 1 (spans p) (λ s m. let is = ((spans_are p).each s).0 m in omega (arith, is.low, is.some)))
      ∙ shown_from 1 cs (le_refl 1) e
