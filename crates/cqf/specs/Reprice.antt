-- What if one flow's frames had another length (document 02): the plan with that length, and a list of numbers with the slacks of
-- the ports that the flow crosses.
use Rattle.std.specs.Prelude.{ℕ, suc, ◌+◌, ◌*◌, List, [], ◌∷◌, Bool, true, false, cond, ℤ, set}
use Rattle.cqf.specs.Bounded.{sum_to}
use Rattle.cqf.specs.Limits.{flow_slots, million}
use Rattle.cqf.specs.Plan.{Plan, period_of, count_of, crosses}
use Rattle.cqf.specs.Ceil.{ceil_div}
use Rattle.cqf.specs.Port.{wire_bits}
use Rattle.cqf.specs.Condition.{slack}

-- the plan with frames of this many bytes for the flow in slot f
unfoldable pub with_length : Plan → (f bytes : ℕ) → Plan
with_length p f bytes =
    record {
      guard = p.guard;
      top = p.top;
      clock = p.clock;
      rates = p.rates;
      blockings = p.blockings;
      extras = p.extras;
      periods = p.periods;
      counts = p.counts;
      lengths = set p.lengths f bytes;
      jitters = p.jitters;
      hops = p.hops;
      routes = p.routes;
    }

-- a list in which number q is v q where the test of q holds; its other numbers remain
unfoldable pub replaced : (ℕ → Bool) → (ℕ → ℤ) → List ℤ → List ℤ
replaced test v [] = []
replaced test v (z ∷ zs) = elim (test 0) [ true ↦ v 0 | false ↦ z ] ∷ replaced (λ q. test (suc q)) (λ q. v (suc q)) zs

-- a list in which the ports that the flow in slot f crosses have their slacks at T with frames of this many bytes, port n at n - 1
unfoldable pub repriced : Plan → (T f bytes : ℕ) → List ℤ → List ℤ
unfolding replaced with_length slack
repriced p T f bytes out = replaced (crosses p f) (λ q. slack (with_length p f bytes) q T) out

-- For d ns more: the most by which the length over which frames are counted grows, and the most bits by which the demand of the
-- port in slot q does.
abbrev pub length_growth : Plan → ℕ → ℕ
length_growth p d = d + ceil_div (d * p.clock.drift) million

unfoldable pub demand_growth : Plan → ℕ → ℕ → ℕ
unfolding ceil_div wire_bits sum_to
demand_growth p q d =
    sum_to flow_slots (λ f. cond (crosses p f q) (wire_bits p f q * count_of p f * ceil_div (length_growth p d) (period_of p f)) 0)
