-- Laws of a number that is in its range.
use Rattle.std.specs.Prelude.{ℕ, ◌+◌, ◌-◌, ◌*◌, ◌≤◌, ◌<◌, ◌≡◌, true, leb}
use Rattle.std.proofs.Common.{arith, leb-true}
use Rattle.std.proofs.Math.Bool.{and-eq-true_iff}
use Rattle.cqf.specs.Bounded.{within}
use Rattle.cqf.specs.Limits.{flow_slots, max_hops, route_stride, flow_ok, hops_ok}

-- it is no smaller than the least and no larger than the most
module _ (lo hi n : ℕ) (e : within lo hi n ≡ true) where
  pub within_low : lo ≤ n
  within_low = leb-true lo n ((and-eq-true_iff (leb lo n) (leb n hi)).0 e).0

  pub within_high : n ≤ hi
  within_high = leb-true n hi ((and-eq-true_iff (leb lo n) (leb n hi)).0 e).1

-- a number from 1 on has its slot in the table
pub slot_below : (slots n : ℕ) → within 1 slots n ≡ true → n - 1 < slots
slot_below slots n e = omega (arith, within_low 1 slots n e, within_high 1 slots n e)

-- a flow's route stays in its sublist of the routes
pub sublist_below : (n h : ℕ) → flow_ok n ≡ true → hops_ok h ≡ true → (n - 1) * route_stride + h ≤ flow_slots * route_stride
sublist_below n h e f = omega (arith, within_low 1 flow_slots n e, within_high 1 flow_slots n e, within_high 1 max_hops h f)
