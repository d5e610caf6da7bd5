-- A port's demand, flow by flow, and its bounds.
use Rattle.std.specs.Prelude.{◌≡◌, refl, cond, ℕ, ◌+◌, ◌*◌, ◌≤◌}
use Rattle.std.proofs.Common.{ap, mul-le-mul, add-one, arith}
use Rattle.cqf.specs.Bounded.{sum_to, elem, sublist}
use Rattle.cqf.specs.Limits.{flow_slots, min_period, max_count, max_length, max_extra, max_jitter}
use Rattle.cqf.specs.Overflow.{most_widened, most_begun, most_bits}
use Rattle.cqf.specs.Plan.{Plan, period_of, count_of, jitter_of, hops_of, crosses}
use Rattle.cqf.specs.Port.{bits_of, wire_bits}
use Rattle.cqf.specs.Widened.{widened}
use Rattle.cqf.specs.Condition.{frames_by, begun, frames, demand}
use Rattle.cqf.proofs.laws.Begun.{begun_most}

-- the frames of flow f, from its numbers
pub frames_by_lem : (p : Plan) (f T : ℕ) → frames p f T ≡ frames_by (count_of p f) (widened p T) (jitter_of p f) (period_of p f)
unfolding frames begun
frames_by_lem p f T = refl

-- what flow f brings to the port in slot q
abbrev pub share : Plan → ℕ → ℕ → ℕ → ℕ
share p q T f = cond (crosses p f q) (frames p f T * wire_bits p f q) 0

pub demand_sum : (p : Plan) (q T : ℕ) → demand p q T ≡ sum_to flow_slots (share p q T)
unfolding demand
demand_sum p q T = refl

-- one flow brings at most its most bits
pub flow_bits_most
    : (L : ℕ) {period count bytes jitter extra : ℕ}
    → L ≤ most_widened
    → min_period ≤ period
    → count ≤ max_count
    → bytes ≤ max_length
    → jitter ≤ max_jitter
    → extra ≤ max_extra
    → frames_by count L jitter period * bits_of bytes extra ≤ most_bits
flow_bits_most L {period} {count} {bytes} {jitter} {extra} l h c b j x =
    let many : frames_by count L jitter period ≤ max_count * most_begun = mul-le-mul c (begun_most L jitter l j h) in
    let long : bits_of bytes extra ≤ bits_of max_length max_extra = omega arith in
    mul-le-mul many long

-- a flow that crosses no port brings nothing
pub share-none : (p : Plan) (q T f : ℕ) → hops_of p f ≡ 0 → share p q T f ≡ 0
unfolding elem sublist
share-none p q T f e = rw e

-- the sum with one flow more
pub demand-next : (p : Plan) (q T f : ℕ) → sum_to (f + 1) (share p q T) ≡ sum_to f (share p q T) + share p q T f
unfolding sum_to
demand-next p q T f = ap (λ (n : ℕ). sum_to n (share p q T)) (add-one f)
