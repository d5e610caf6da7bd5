-- The length over which frames are counted where clocks differ is at most the longest.
use Rattle.std.specs.Prelude.{◌≡◌, true, ℕ, ◌≤◌, ◌<◌}
use Rattle.std.proofs.Common.{arith}
use Rattle.cqf.specs.Limits.{port_slots}
use Rattle.cqf.specs.Overflow.{most_widened, most_demand}
use Rattle.cqf.specs.Plan.{Plan, valid_plan}
use Rattle.cqf.specs.Widened.{widened_by, widened}
use Rattle.cqf.specs.Condition.{demand}
use Rattle.cqf.proofs.laws.Begun.{widened_most}
use Rattle.cqf.proofs.laws.Ranges.{top_most, drift_most, timing_most, extra_most}
use Rattle.questions.specs.laws.Sums.{slot_in_range, demand_most}

pub widened_fits : (p : Plan) → valid_plan p ≡ true → (T : ℕ) → T ≤ p.top → widened_by p.clock T ≤ most_widened
widened_fits p valid T l =
    widened_most p.clock T (omega (arith, top_most p valid, l)) (drift_most p valid) (timing_most p valid)

-- and so is each demand
pub demand_fits : (p : Plan) → valid_plan p ≡ true → (T : ℕ) → T ≤ p.top → (q : ℕ) → q < port_slots → demand p q T ≤ most_demand
unfolding widened
demand_fits p valid T l q slot =
    demand_most p (slot_in_range p valid) (extra_most p valid) T (widened_fits p valid T l) q slot

-- the length over which frames are counted, as a number
module _ (p : Plan) (T : ℕ) where
  pub widened_is : {over : ℕ} → over ≡ widened_by p.clock T → over ≡ widened p T
  unfolding widened
  widened_is e = e

  pub widened_short : valid_plan p ≡ true → T ≤ p.top → widened p T ≤ most_widened
  unfolding widened
  widened_short valid l = widened_fits p valid T l
