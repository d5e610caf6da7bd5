-- The cycle in which each frame is emitted (document 01, "Emissions and runs"; document 02 for clocks that differ).
use Rattle.std.specs.Prelude.{◌≡◌, List, map, true, false, ℕ, suc, ◌+◌, ◌/◌, ◌≤◌, ◌<◌, length, get_or}
use Rattle.cqf.specs.Plan.{Plan, clocks_equal}
use Rattle.cqf.specs.Widened.{widened}
use Rattle.cqf.specs.Emission.{Emission}

-- for the flow of each slot, the cycle of each of its frames
abbrev pub Cycles : Type 0
Cycles = ℕ → List ℕ

-- aligned cycles: cycle c covers the instants from c T up to but not including (c + 1) T
abbrev pub cycles_of : ℕ → Emission → Cycles
cycles_of T e f = map (λ (t : ℕ). t / T) (e f)

-- A partition of each flow's frames, in their order, into consecutive cycles, some perhaps empty (document 02: a cut): a cycle for
-- each frame, never falling, so that the instants of one cycle lie within a half-open stretch of the length over which frames
-- are counted. Of two frames of one cycle the later is emitted less than that length after the earlier. Each flow has its own.
pub record Partition (p : Plan) (T : ℕ) (e : Emission) (cycles : Cycles) : Type 0 where
  pub each : (f : ℕ) → length (cycles f) ≡ length (e f)
  pub rising : (f k : ℕ) → suc k < length (e f) → get_or (cycles f) k 0 ≤ get_or (cycles f) (suc k) 0
  pub near
      : (f i j : ℕ)
      → i ≤ j
      → j < length (e f)
      → get_or (cycles f) i 0 ≡ get_or (cycles f) j 0
      → get_or (e f) j 0 < get_or (e f) i 0 + widened p T

-- the cycles that a run may have: the aligned ones where clocks are taken as equal, and else those of any partition
pub data Permitted (p : Plan) (T : ℕ) (e : Emission) (cycles : Cycles) : Type 0 where
  aligned : clocks_equal p ≡ true → ((f : ℕ) → cycles f ≡ cycles_of T e f) → Permitted p T e cycles
  parted : clocks_equal p ≡ false → Partition p T e cycles → Permitted p T e cycles
