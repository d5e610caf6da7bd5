-- The length over which frames are counted at a duration where clocks differ (document 02: the widened T).
use Rattle.std.specs.Prelude.{ℕ, min, ◌+◌, ◌*◌}
use Rattle.cqf.specs.Limits.{million}
use Rattle.cqf.specs.Ceil.{ceil_div}
use Rattle.cqf.specs.Plan.{Clock, Plan}

-- in ns: what drift and timing jitter make of T, or what the synchronization error at its two ends does, whichever is smaller
abbrev pub widened_by : Clock → (T : ℕ) → ℕ
widened_by k T = min (T + ceil_div (T * k.drift) million + k.timing_jitter_of) (T + 2 * k.sync_error_of)

-- the same of a plan
unfoldable pub widened : Plan → ℕ → ℕ
unfolding ceil_div
widened p T = widened_by p.clock T
