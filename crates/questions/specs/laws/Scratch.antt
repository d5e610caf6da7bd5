-- The scratch in a search, filled with each port's demand at a duration.
use Rattle.std.specs.Prelude.{◌≡◌, true, List, ℕ, ◌≤◌, ◌<◌, length, get_or}
use Rattle.std.proofs.Math.Path.{ap}
use Rattle.std.proofs.Common.{◌∙◌, arith}
use Rattle.cqf.specs.Bounded.{max_to, tabulate}
use Rattle.cqf.specs.Limits.{port_slots, max_top}
use Rattle.cqf.specs.Plan.{Plan, rate_of, blocking_of, extra_of, valid_plan}
use Rattle.cqf.specs.Condition.{demand}
use Rattle.cqf.specs.Need.{need_by, need, largest_need}
use Rattle.cqf.specs.Overflow.{most_demand}
use Rattle.cqf.proofs.laws.Bounds.{max_to_same}
use Rattle.cqf.proofs.laws.Tabulate.{tabulate_length, tabulate-at}
use Rattle.cqf.proofs.laws.Ranges.{top_most}
use Rattle.cqf.proofs.laws.Search.{busy_rate}
use Rattle.questions.specs.laws.Widened.{demand_fits}

-- the demands at t, in a valid plan
pub record Filled (p : Plan) (out : List ℕ) (t : ℕ) : Type 0 where
  pub valid : valid_plan p ≡ true
  pub within : t ≤ p.top
  pub demands : out ≡ tabulate port_slots (λ q. demand p q t)

pub filled_by : {p : Plan} {out : List ℕ} {t : ℕ} → valid_plan p ≡ true → t ≤ p.top → out ≡ tabulate port_slots (λ q. demand p q t) → Filled p out t
filled_by valid l e = record { valid = valid; within = l; demands = e }

module _ {p : Plan} {out : List ℕ} {t : ℕ} (s : Filled p out t) where
  pub filled_length : length out ≡ port_slots
  filled_length = ap length s.demands ∙ tabulate_length port_slots _

  pub filled_short : t ≤ max_top
  filled_short = omega (arith, top_most p s.valid, s.within)

  module _ (q : ℕ) (slot : q < port_slots) where
    pub filled_bits : get_or out q 0 ≡ demand p q t
    filled_bits = rw s.demands (tabulate-at port_slots (λ q. demand p q t) q slot)

    pub filled_most : get_or out q 0 ≤ most_demand
    filled_most = rw filled_bits (demand_fits p s.valid t s.within q slot)

    -- a port with a demand has a rate
    pub filled-served : 0 < get_or out q 0 → 0 < rate_of p q
    filled-served l = busy_rate p s.valid t q (rw filled_bits at l)

  -- the most that a port needs by the columns
  pub filled-largest
      : {r : ℕ}
      → r ≡ max_to port_slots (λ q. need_by p.guard (rate_of p q) (blocking_of p q) (extra_of p q) (get_or out q 0))
      → r ≡ largest_need p t
  unfolding largest_need need
  filled-largest e =
      e ∙ max_to_same port_slots _ _ (λ q l. ap (need_by p.guard (rate_of p q) (blocking_of p q) (extra_of p q)) (filled_bits q l))
