-- K with another frame length for one of its flows.
use Rattle.std.specs.Prelude.{◌≡◌, pos, negsuc}
use Rattle.std.proofs.Common.{lit≤}
use Rattle.cqf.specs.Bounded.{sum_to, elem, sublist}
use Rattle.cqf.specs.Plan.{no_plan}
use Rattle.cqf.specs.Ceil.{ceil_div}
use Rattle.cqf.specs.Port.{wire_bits, window, capacity, workload}
use Rattle.cqf.specs.Widened.{widened}
use Rattle.cqf.specs.Condition.{begun, frames, slack}
use Rattle.cqf.specs.Reprice.{with_length}
use Rattle.cqf.proofs.laws.Few.{few_length, demand_in, slack-few}
use Rattle.cqf.proofs.worked.K.{plan_k, few_k}

-- at 100,000 the slack is 2,800,000: one byte more of flow 1 takes 8,000, a hundred more of flow 2 take 800,000; at 120,000 a
-- flow 2 of 500 bytes leaves 520,000 too few
repriced_k
    : (slack plan_k 0 100000 ≡ pos 2800000)
    × (slack (with_length plan_k 0 231) 0 100000 ≡ pos 2792000)
    × (slack (with_length plan_k 1 705) 0 100000 ≡ pos 2000000)
    × (slack (with_length plan_k 1 500) 0 120000 ≡ negsuc 519999)
unfolding plan_k no_plan with_length capacity window workload demand_in sum_to elem sublist frames begun widened ceil_div wire_bits
repriced_k = (
  slack-few few_k 0 100000,
  slack-few (few_length few_k 0 231 (lit≤ tt)) 0 100000,
  slack-few (few_length few_k 1 705 (lit≤ tt)) 0 100000,
  slack-few (few_length few_k 1 500 (lit≤ tt)) 0 120000,
)
