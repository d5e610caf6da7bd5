-- The condition of document 01: Theorem 1 of the source paper in whole ns, with the IEEE 802.3 overhead. A flow brings
-- count × ceil((widened T + J) / period) frames; T is a cycle duration in ns, f the slot of a flow, q the slot of a port.
use Rattle.std.specs.Prelude.{ℕ, suc, ◌+◌, ◌*◌, Bool, cond, not, ◌&&◌, eqb, leb, ℤ}
use Rattle.std.proofs.Math.IntN.{sub_ℕ}
use Rattle.cqf.specs.Bounded.{sum_to, count_to, any_to, lowest}
use Rattle.cqf.specs.Limits.{port_slots, flow_slots}
use Rattle.cqf.specs.Plan.{Plan, period_of, count_of, jitter_of, crosses}
use Rattle.cqf.specs.Ceil.{ceil_div}
use Rattle.cqf.specs.Port.{wire_bits, capacity, workload, exceeds}
use Rattle.cqf.specs.Widened.{widened}

-- One flow, from its numbers. The most periods that can begin in a length of so many ns, or within the jitter before it, and the
-- frames that the flow then brings.
abbrev pub begun_by : (widened jitter period : ℕ) → ℕ
begun_by widened jitter period = ceil_div (widened + jitter) period

abbrev pub frames_by : (count widened jitter period : ℕ) → ℕ
frames_by count widened jitter period = count * begun_by widened jitter period

-- Of a plan. The most periods of flow f that can begin in the widened T or within its jitter before it.
unfoldable pub begun : Plan → ℕ → ℕ → ℕ
unfolding ceil_div widened
begun p f T = begun_by (widened p T) (jitter_of p f) (period_of p f)

-- the frames that flow f brings at T
unfoldable pub frames : Plan → ℕ → ℕ → ℕ
unfolding begun
frames p f T = count_of p f * begun p f T

-- a port's demand D at T, in bits
unfoldable pub demand : Plan → ℕ → ℕ → ℕ
unfolding wire_bits frames sum_to
demand p q T = sum_to flow_slots (λ f. cond (crosses p f q) (frames p f T * wire_bits p f q) 0)

-- a crossed port's slack at T: document 01's spare
unfoldable pub slack : Plan → ℕ → ℕ → ℤ
unfolding capacity workload demand
slack p q T = sub_ℕ (capacity p q T) (workload p q (demand p q T))

-- whether some flow crosses the port in slot q
unfoldable pub crossed : Plan → ℕ → Bool
unfolding any_to
crossed p q = any_to flow_slots (λ f. crosses p f q)

-- whether the port in slot q fails at T; one that no flow crosses is never tested
unfoldable pub fails : Plan → ℕ → ℕ → Bool
unfolding crossed capacity workload demand
fails p T q = crossed p q && exceeds (workload p q (demand p q T)) (capacity p q T)

-- how many ports fail at T, and the number of the lowest
unfoldable pub failing : Plan → ℕ → ℕ
unfolding fails count_to
failing p T = count_to port_slots (fails p T)

unfoldable pub lowest_failing : Plan → ℕ → ℕ
unfolding fails lowest
lowest_failing p T = suc (lowest port_slots (fails p T))

-- no crossed port fails at T
unfoldable pub admissible : Plan → ℕ → Bool
unfolding failing
admissible p T = eqb (failing p T) 0

-- whether every duration from T to top is admissible
unfoldable pub safe_from : Plan → ℕ → Bool
unfolding admissible any_to
safe_from p T = not (any_to (suc p.top) (λ t. leb T t && not (admissible p t)))

-- the smallest duration from 1 to top that passes the test, or one above top where none does
unfoldable pub smallest : (ℕ → Bool) → ℕ → ℕ
unfolding lowest
smallest good top = suc (lowest top (λ i. good (suc i)))

-- the least duration: the smallest admissible one from 1 to top, or one above top where there is none
unfoldable pub least : Plan → ℕ
unfolding smallest admissible
least p = smallest (admissible p) p.top

-- the margin-safe duration: the smallest from which each up to top is admissible, or one above top where there is none
unfoldable pub margin_safe : Plan → ℕ
unfolding smallest safe_from
margin_safe p = smallest (safe_from p) p.top
