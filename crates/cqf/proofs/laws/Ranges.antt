-- What the searches ask of a valid plan: the ranges of its top, of its clocks' numbers and of each port's extra bytes, and a rate for each port that is crossed.
use Rattle.std.specs.Prelude.{◌≡◌, true, ◌&&◌, List, ℕ, suc, ◌≤◌, ◌<◌, get_or, ltb}
use Rattle.std.proofs.Math.Bool.{and-eq-true_iff}
use Rattle.std.proofs.Math.Dec.{eqb}
use Rattle.std.proofs.Common.{arith}
use borrow.Author.Tests.{eqb-true, leb-true, ltb-true}
use Rattle.cqf.specs.Limits.{port_slots, flow_slots, max_top, max_drift, max_timing_jitter, max_extra, port_ok, rate_ok, blocking_ok, extra_ok}
use Rattle.cqf.specs.Plan.{Plan, rate_of, blocking_of, extra_of, route_of, crosses, port_in, valid_port, valid_plan}
use Rattle.cqf.specs.Condition.{crossed}
use Rattle.cqf.proofs.laws.Bounded.{any_to_true, or_cases, all_to-at}
use Rattle.cqf.proofs.laws.Lists.{elem_index, every-at}
use Rattle.cqf.proofs.laws.Valid.{crosses_held}

-- a port in the plan has a rate
port_in_lem : (rates : List ℕ) (q : ℕ) → port_in rates (suc q) ≡ true → 0 < get_or rates q 0
port_in_lem rates q h = ltb-true _ _ ((and-eq-true_iff (port_ok (suc q)) (ltb 0 (get_or rates q 0))).0 h).1

module _ (p : Plan) (valid : valid_plan p ≡ true) where
  -- top is from 1 to the largest duration
  pub top_positive : 1 ≤ p.top
  unfolding valid_plan
  top_positive = let h = simp and-eq-true_iff at valid in leb-true _ _ h.0.0.0.0.0.0

  pub top_most : p.top ≤ max_top
  unfolding valid_plan
  top_most = let h = simp and-eq-true_iff at valid in leb-true _ _ h.0.0.0.0.0.1

  -- the numbers of the clocks that widen a duration
  pub drift_most : p.clock.drift ≤ max_drift
  unfolding valid_plan
  drift_most = let h = simp and-eq-true_iff at valid in leb-true _ _ h.0.0.0.1.0.0.1

  pub timing_most : p.clock.timing_jitter_of ≤ max_timing_jitter
  unfolding valid_plan
  timing_most = let h = simp and-eq-true_iff at valid in leb-true _ _ h.0.0.0.1.0.1.1

  -- a port adds at most the most extra bytes to a frame
  pub extra_most : (q : ℕ) → q < port_slots → extra_of p q ≤ max_extra
  unfolding valid_plan valid_port
  extra_most q l =
      let h = simp and-eq-true_iff at valid in
      or_cases
      (eqb (rate_of p q) 0 && eqb (blocking_of p q) 0 && eqb (extra_of p q) 0)
      (rate_ok (rate_of p q) && blocking_ok (blocking_of p q) && extra_ok (extra_of p q))
      (all_to-at port_slots (valid_port p) h.0.0.1 q l)
      (λ e. let t = simp and-eq-true_iff at e in omega (arith, eqb-true (extra_of p q) 0 t.1))
      (λ e. let t = simp and-eq-true_iff at e in leb-true (extra_of p q) max_extra t.1.1)

  -- a port that a flow crosses is in the plan
  pub crossed_rate : (q : ℕ) → crossed p q ≡ true → 0 < rate_of p q
  unfolding crossed
  crossed_rate q h =
      let s = any_to_true flow_slots (λ f. crosses p f q) h in
      let flow = crosses_held p valid s.0 q s.1 s.2 in
      let at = elem_index (suc q) (route_of p s.0) s.2 in
      let port = every-at (port_in p.rates) (route_of p s.0) flow.in_plan at.0 at.1 in
      port_in_lem p.rates q (rw at.2 at port)
