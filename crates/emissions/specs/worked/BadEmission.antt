-- The bad emission of plan K at 120,000 ns: flow 1 at 0 and 100,000, flow 2 at 0 and 110,000, both in cycle 0. Port 1 must send 14,000
-- bits in cycle 1 and can send 11,800.
use Rattle.std.specs.Prelude.{◌≡◌, refl, [], ◌∷◌, map, ℕ}
use Rattle.cqf.specs.Bounded.{sum_to, max_to, lowest, tabulate, elem, sublist}
use Rattle.cqf.specs.Plan.{no_plan}
use Rattle.cqf.specs.Ceil.{ceil_div}
use Rattle.cqf.specs.Port.{wire_bits, window, capacity}
use Rattle.cqf.specs.Widened.{widened}
use Rattle.cqf.specs.Condition.{begun, frames}
use Rattle.emissions.specs.Unsent.{sendable}
use Rattle.emissions.specs.BadEmission.{hop, latest_hop, burst_cycle, burst_frames, burst_instant, bad_emission, burst_at, burst_bits}
use Rattle.cqf.proofs.worked.K.{plan_k}

emission_k : map (bad_emission plan_k 120000 0) (0 ∷ 1 ∷ 2 ∷ []) ≡ (0 ∷ 100000 ∷ []) ∷ (0 ∷ 110000 ∷ []) ∷ [] ∷ []
unfolding plan_k no_plan bad_emission burst_frames burst_instant burst_cycle latest_hop hop max_to lowest tabulate elem sublist frames begun widened ceil_div
emission_k = refl

bits_k : map (λ (c : ℕ). burst_bits plan_k 120000 0 c 0) (0 ∷ 1 ∷ 2 ∷ []) ≡ 0 ∷ 14000 ∷ 0 ∷ []
unfolding plan_k no_plan burst_bits burst_at burst_frames burst_cycle latest_hop hop max_to lowest sum_to elem sublist frames begun widened ceil_div wire_bits
bits_k = refl

sent_k : sendable plan_k 120000 0 ≡ 11800
unfolding plan_k no_plan sendable capacity window
sent_k = refl
