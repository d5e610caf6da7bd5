-- A duration that is admissible for a valid plan is longer than two guard bands, so that in every cycle there is an instant at which
-- the sending of a frame may end.
use Rattle.std.specs.Prelude.{◌≡◌}
use Rattle.std.proofs.Common.{sym, ◌∙◌, true≢false, le_refl, mul-zero, suc-mul}
use Rattle.std.proofs.Math.Bool.{true, and-eq-true_iff}
use Prim.Native.Nat.{ℕ, suc, ◌+◌, ◌-◌, ◌*◌, ◌≤◌, ◌<◌}
use Rattle.std.proofs.Math.Decide.{dec_lt}
use native.Mathlib.Omega.{arith}
use Rattle.std.proofs.Math.ListN.{length, get_or}
use borrow.Author.Tests.{leb-true}
use Rattle.cqf.specs.Limits.{port_slots, flow_slots, port_ok, route_stride}
use Rattle.cqf.specs.Plan.{Plan, hops_of, route_of, present, crosses, port_in, valid_plan}
use Rattle.cqf.specs.Port.{window, capacity}
use Rattle.cqf.specs.Condition.{crossed, admissible}
use Rattle.cqf.specs.Run.{MayEnd}
use Rattle.cqf.proofs.laws.Bounded.{any_to_true, any_to_some}
use Rattle.cqf.proofs.laws.Lists.{elem_at, every-at, sublist_length}
use Rattle.cqf.proofs.laws.Valid.{present_held}
use Rattle.cqf.proofs.laws.Condition.{none-fails, demand_pos}
use Rattle.cqf.proofs.laws.Need.{workload_positive, fails-over}

-- no window, nothing sent
no_capacity : (p : Plan) (q T : ℕ) → T ≤ 2 * p.guard → capacity p q T ≡ 0
unfolding capacity window
no_capacity p q T l = let z : T - 2 * p.guard ≡ 0 = omega arith in rw (z, mul-zero)

module _ (p : Plan) (valid : valid_plan p ≡ true) where
  -- a flow of the plan
  some_flow : (f : ℕ) × (f < flow_slots) × (present p f ≡ true)
  unfolding valid_plan
  some_flow = let h = simp and-eq-true_iff at valid in any_to_true flow_slots (present p) h.1

  -- the first port of its route is crossed
  some_crossed : (q : ℕ) × (q < port_slots) × (crossed p q ≡ true)
  unfolding crossed
  some_crossed =
      let s = some_flow in
      let f = s.0 in
      let flow = present_held p valid f s.2 in
      let long : 0 < length (route_of p f) = omega (arith, sublist_length p.routes (f * route_stride) (hops_of p f), flow.hops_least) in
      let n = get_or (route_of p f) 0 0 in
      let ok : port_ok n ≡ true = ((and-eq-true_iff (port_ok n) _).0 (every-at (port_in p.rates) (route_of p f) flow.in_plan 0 long)).0 in
      let ends = (and-eq-true_iff _ _).0 ok in
      let low : 1 ≤ n = leb-true _ _ ends.0 in
      let high : n ≤ port_slots = leb-true _ _ ends.1 in
      let same : n ≡ suc (n - 1) = omega arith in
      (n - 1, omega arith, any_to_some flow_slots (λ f. crosses p f (n - 1)) f s.1 (rw (← same) (elem_at (route_of p f) 0 long)))

  module _ (T : ℕ) (first : 1 ≤ T) (good : admissible p T ≡ true) where
    -- a window of 0 could not carry what that port must send
    pub longer : 2 * p.guard < T
    longer = go (dec_lt (2 * p.guard) T)
      where
        go : Dec (2 * p.guard < T) → 2 * p.guard < T
        go (yes l) = l
        go (no l) =
            let s = some_crossed in
            let q = s.0 in
            let some = workload_positive p q (demand_pos p q T valid first s.2) in
            let none : capacity p q T ≡ 0 = no_capacity p q T (omega arith) in
            let failed = fails-over p T q s.2 (omega arith) in
            absurd (true≢false (sym failed ∙ none-fails p T good q s.1))

    pub may_end : (c : ℕ) → MayEnd p T c (c * T + p.guard)
    may_end c = record { opened = le_refl _; closed = omega (arith, longer, suc-mul c T) }
