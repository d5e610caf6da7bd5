-- What a port needs (document 02, the climb): the searches go by it. The least duration from a start on.
use Rattle.std.specs.Prelude.{ℕ, ◌+◌, ◌*◌, cond, ◌&&◌, ltb, leb}
use Rattle.cqf.specs.Bounded.{max_to}
use Rattle.cqf.specs.Limits.{port_slots}
use Rattle.cqf.specs.Plan.{Plan, rate_of, blocking_of, extra_of}
use Rattle.cqf.specs.Ceil.{ceil_div}
use Rattle.cqf.specs.Port.{workload_of}
use Rattle.cqf.specs.Condition.{demand, admissible, smallest}

-- the least duration in which a port can send these bits outside the guard bands; 0 where there are none
abbrev pub need_by : (guard rate blocking extra bits : ℕ) → ℕ
need_by guard rate blocking extra bits = cond (ltb 0 bits) (2 * guard + ceil_div (workload_of blocking extra bits) rate) 0

-- what the port in slot q needs for its demand at T, and the most that a port needs
unfoldable pub need : Plan → ℕ → ℕ → ℕ
unfolding demand
need p q T = need_by p.guard (rate_of p q) (blocking_of p q) (extra_of p q) (demand p q T)

unfoldable pub largest_need : Plan → ℕ → ℕ
largest_need p T = max_to port_slots (λ q. need p q T)

-- the smallest admissible duration from t to top, or one above top where there is none
unfoldable pub least_from : Plan → ℕ → ℕ
unfolding smallest admissible
least_from p t = smallest (λ u. leb t u && admissible p u) p.top
