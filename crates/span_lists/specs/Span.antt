-- The usable durations of a plan: its spans (document 02). A span is a run of admissible durations from 1 to top that can grow at
-- neither end, given by its first and its last.
use Rattle.std.specs.Prelude.{ℕ, zero, suc, pred, ◌+◌, ◌≤◌, ◌<◌, ◌≡◌, ◌↔◌, Bool, true, false, not, ◌&&◌, leb, ltb}
use mathlib.Core.List.{List, [], ◌∷◌, ◌++◌, Memᴰ}
use Rattle.cqf.specs.Plan.{Plan}
use Rattle.cqf.specs.Condition.{admissible, smallest, least, margin_safe}

pub record Span : Type 0 where
  pub first : ℕ
  pub last : ℕ

-- a duration lies in a span
abbrev pub Holds : Span → ℕ → Type 0
Holds s T = (s.first ≤ T) × (T ≤ s.last)

-- a run of admissible durations from 1 to top that can grow at neither end
pub record IsSpan (p : Plan) (s : Span) : Type 0 where
  pub low : 1 ≤ s.first
  pub some : s.first ≤ s.last
  pub high : s.last ≤ p.top
  pub run : (T : ℕ) → Holds s T → admissible p T ≡ true
  -- the duration below it and the one above it are refused, or outside 1 to top
  pub below : (T : ℕ) → 1 ≤ T → suc T ≡ s.first → admissible p T ≡ false
  pub above : suc s.last ≤ p.top → admissible p (suc s.last) ≡ false

-- whether a span begins at T: T is admissible, and it is 1 or the one below it is not
abbrev pub begins : Plan → ℕ → Bool
begins p T = admissible p T && not (ltb 1 T && admissible p (pred T))

-- the last duration of the run from T on: one below the smallest refused one from T to top, or top where there is none
unfoldable pub last_from : Plan → ℕ → ℕ
last_from p T = pred (smallest (λ u. leb T u && not (admissible p u)) p.top)

abbrev pub span_from : Plan → ℕ → Span
span_from p T = record { first = T; last = last_from p T }

-- a list with s in front of it where a test is true
abbrev pub and_where : Bool → Span → List Span → List Span
and_where true s ss = s ∷ ss
and_where false s ss = ss

-- the spans that begin at one of n durations, from T on
unfoldable pub spans_in : Plan → (n T : ℕ) → List Span
spans_in p zero T = []
spans_in p (suc n) T = and_where (begins p T) (span_from p T) (spans_in p n (suc T))

-- all spans, rising: one for each duration from 1 to top at which one begins
unfoldable pub spans : Plan → List Span
spans p = spans_in p p.top 1

-- those of a list that end at T or later
unfoldable pub ending_from : (T : ℕ) → List Span → List Span
ending_from T [] = []
ending_from T (s ∷ ss) = and_where (leb T s.last) s (ending_from T ss)

-- each begins at b or later, and one after another at least two after the last of the one before: they rise, and there is a
-- duration between two
unfoldable pub Rising : (b : ℕ) → List Span → Type 0
Rising b [] = Unit {0}
Rising b (s ∷ ss) = (b ≤ s.first) × Rising (s.last + 2) ss

-- What the list of the spans is, for every plan.
pub record Spans (p : Plan) (ss : List Span) : Type 0 where
  -- each is a span, each span is one of them, and they rise
  pub each : (s : Span) → Memᴰ s ss ↔ IsSpan p s
  pub rising : Rising 1 ss
  -- between two there is a refused duration
  pub between
      : (s t : Span)
      → Memᴰ s ss
      → Memᴰ t ss
      → s.first < t.first
      → (u : ℕ) × (s.last < u) × (u < t.first) × (admissible p u ≡ false)
  -- a duration from 1 to top is admissible exactly when one of them holds it
  pub hold : (T : ℕ) → 1 ≤ T → T ≤ p.top → (admissible p T ≡ true) ↔ ((s : Span) × Memᴰ s ss × Holds s T)
  -- the first begins at the least duration; there is none exactly where there is no least duration
  pub least_first : least p ≤ p.top → (last : ℕ) × (rest : List Span) × (ss ≡ record { first = least p; last = last } ∷ rest)
  pub none : (ss ≡ []) ↔ (least p ≡ suc p.top)
  -- where there is a margin-safe duration, the last begins there and ends at top
  pub safe_last : margin_safe p ≤ p.top → (rest : List Span) × (ss ≡ rest ++ (record { first = margin_safe p; last = p.top } ∷ []))
  -- the first of them that ends at T or later is the only span of which T is at most the last and nothing from T to below it is
  -- admissible; there is none where nothing from T to top is
  pub first_ending
      : (T : ℕ) (s : Span)
      → 1 ≤ T
      → ((rest : List Span) × (ending_from T ss ≡ s ∷ rest)) ↔ (IsSpan p s × (T ≤ s.last) × ((u : ℕ) → T ≤ u → u < s.first → admissible p u ≡ false))
  pub none_ending : (T : ℕ) → 1 ≤ T → (ending_from T ss ≡ []) ↔ ((u : ℕ) → T ≤ u → u ≤ p.top → admissible p u ≡ false)
