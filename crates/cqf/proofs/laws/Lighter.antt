-- What a lighter plan never has more of: the frames of a flow, a port's demand and what it must send. It never has less that it can
-- send, so a port of it fails only where that port of the other does.
use Rattle.std.specs.Prelude.{◌≡◌, refl, Bool, true, false, cond, ℕ, ◌*◌, ◌≤◌, ◌<◌}
use Rattle.std.proofs.Common.{zero-le, le_refl, le_trans}
use Rattle.std.proofs.Math.Nat.{mul-le-mul}
use native.Mathlib.Omega.{arith}
use Rattle.cqf.specs.Limits.{port_slots, flow_slots}
use Rattle.cqf.specs.Plan.{Plan, blocking_of, extra_of, period_of, count_of, jitter_of, crosses, valid_plan}
use Rattle.cqf.specs.Port.{wire_bits, window, capacity, workload}
use Rattle.cqf.specs.Widened.{widened}
use Rattle.cqf.specs.Condition.{begun, frames, demand, crossed, admissible}
use Rattle.cqf.specs.Lighter.{LighterPort, LighterFlow, Lighter}
use Rattle.cqf.proofs.laws.Bounded.{sum_to_le, any_to_true, any_to_some}
use Rattle.cqf.proofs.laws.Valid.{present_period, crosses_held, held_present}
use Rattle.cqf.proofs.laws.Begun.{widened_clocks, begun_easier}
use Rattle.cqf.proofs.laws.Condition.{none-fails, workload_easier}
use Rattle.cqf.proofs.laws.Demand.{share, demand_sum}
use Rattle.cqf.proofs.laws.Need.{fails_not, fits, admissible-none}

-- a plan is as light as itself
pub lighter_self : (p : Plan) → Lighter p p
lighter_self p =
    record {
      top = refl;
      guard = le_refl _;
      drift = le_refl _;
      timing_jitter_of = le_refl _;
      sync_error_of = le_refl _;
      ports = λ q _. record { held = refl; rate = le_refl _; blocking = le_refl _; extra = le_refl _ };
      flows = λ f there. record {
        held = there;
        route = refl;
        bytes = le_refl _;
        count = le_refl _;
        period = le_refl _;
        jitter = le_refl _;
      };
    }

module _ (second first : Plan) (lighter : Lighter second first) where
  -- frames are counted over a length that is no longer
  widened_lighter : (T : ℕ) → widened second T ≤ widened first T
  unfolding widened
  widened_lighter T = widened_clocks T (omega arith) (omega arith) (omega arith)

  -- a flow brings no more frames, since its period is above 0 in the first plan too
  frames_lighter : (f T : ℕ) → LighterFlow second first f → frames second f T ≤ frames first f T
  unfolding frames begun
  frames_lighter f T flow =
      let some = present_period first f flow.held in
      let fewer : count_of second f ≤ count_of first f = omega arith in
      let less : jitter_of second f ≤ jitter_of first f = omega arith in
      let longer : period_of first f ≤ period_of second f = omega arith in
      mul-le-mul fewer (begun_easier (widened_lighter T) less some longer)

-- nor are they larger on the wire
bits_lighter : (second first : Plan) (f q : ℕ) → LighterFlow second first f → LighterPort second first q → wire_bits second f q ≤ wire_bits first f q
unfolding wire_bits
bits_lighter second first f q flow port = omega arith

-- what a port must send of no more bits, and what it can send
workload_lighter : (second first : Plan) (q : ℕ) {a b : ℕ} → LighterPort second first q → a ≤ b → workload second q a ≤ workload first q b
unfolding workload
workload_lighter second first q port l =
    let shorter : blocking_of second q ≤ blocking_of first q = omega arith in
    let fewer : extra_of second q ≤ extra_of first q = omega arith in
    workload_easier shorter fewer l

capacity_lighter : (second first : Plan) (q T : ℕ) → Lighter second first → LighterPort second first q → capacity first q T ≤ capacity second q T
unfolding capacity window
capacity_lighter second first q T lighter port = mul-le-mul (omega arith) (omega arith)

module _ (second first : Plan) (valid : valid_plan second ≡ true) (lighter : Lighter second first) where
  -- a flow that crosses a port does so in the first plan too
  flow_lighter : (f q : ℕ) → f < flow_slots → crosses second f q ≡ true → LighterFlow second first f
  flow_lighter f q l c = lighter.flows f (held_present second f l (crosses_held second valid f q l c))

  crosses_lighter : (f q : ℕ) → f < flow_slots → crosses second f q ≡ true → crosses first f q ≡ true
  crosses_lighter f q l c = let flow = flow_lighter f q l c in cc

  crossed_lighter : (q : ℕ) → crossed second q ≡ true → crossed first q ≡ true
  unfolding crossed
  crossed_lighter q c =
      let s = any_to_true flow_slots (λ f. crosses second f q) c in
      any_to_some flow_slots (λ f. crosses first f q) s.0 s.1 (crosses_lighter s.0 q s.1 s.2)

  -- what a flow brings to a port, and the sum
  share_lighter : (q T f : ℕ) → q < port_slots → f < flow_slots → share second q T f ≤ share first q T f
  share_lighter q T f slot l = go (crosses second f q) refl
    where
      go : (x : Bool) → crosses second f q ≡ x → cond x (frames second f T * wire_bits second f q) 0 ≤ share first q T f
      go true c =
          let flow = flow_lighter f q l c in
          rw (crosses_lighter f q l c)
          (mul-le-mul (frames_lighter second first lighter f T flow) (bits_lighter second first f q flow (lighter.ports q slot)))
      go false c = zero-le

  demand_lighter : (q T : ℕ) → q < port_slots → demand second q T ≤ demand first q T
  demand_lighter q T slot =
      rw (demand_sum second q T, demand_sum first q T)
      (sum_to_le flow_slots (share second q T) (share first q T) (λ f l. share_lighter q T f slot l))

  pub admissible_lighter : (T : ℕ) → admissible first T ≡ true → admissible second T ≡ true
  admissible_lighter T good =
      admissible-none second T λ q slot. fails_not second T q λ c.
      le_trans
      (workload_lighter second first q (lighter.ports q slot) (demand_lighter q T slot))
      (le_trans (fits first T q (crossed_lighter q c) (none-fails first T good q slot)) (capacity_lighter second first q T lighter (lighter.ports q slot)))
