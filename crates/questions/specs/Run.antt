-- What the parts of the search for a span give.
use Rattle.std.specs.Prelude.{◌≡◌, true, false, ℕ, suc, ◌≤◌, ◌<◌}
use Rattle.cqf.specs.Plan.{Plan}
use Rattle.cqf.specs.Condition.{admissible}

-- above every length over which frames are counted, with a period and a jitter
abbrev pub far : ℕ
far = 1099511627776

-- the largest refused duration from low to high, or one below low where there is none
pub record RunDown (p : Plan) (low high r : ℕ) : Type 0 where
  pub from : low ≤ suc r
  pub upto : r ≤ high
  pub run : (u : ℕ) → r < u → u ≤ high → admissible p u ≡ true
  pub refused : low ≤ r → admissible p r ≡ false

-- the first duration of the run that ends at start, which is all of it from there where nothing from T to below start is admissible
pub record FirstOf (p : Plan) (T start r : ℕ) : Type 0 where
  pub low : 1 ≤ r
  pub upto : r ≤ start
  pub run
      : ((u : ℕ) → T ≤ u → u < start → admissible p u ≡ false)
      → (u : ℕ)
      → r ≤ u
      → u < start
      → admissible p u ≡ true
  pub below
      : ((u : ℕ) → T ≤ u → u < start → admissible p u ≡ false)
      → (t : ℕ)
      → 1 ≤ t
      → suc t ≡ r
      → admissible p t ≡ false
