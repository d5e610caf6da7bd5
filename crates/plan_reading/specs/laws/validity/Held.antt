-- What a valid plan gives of each of its tests, and of a slot that holds a port or a flow.
use Rattle.std.specs.Prelude.{ℕ, ◌<◌, ◌≡◌, ◌⊎◌, ◌&&◌}
use Rattle.std.proofs.Common.{inl, inr}
use Rattle.std.proofs.Math.Bool.{true, and-eq-true_iff}
use native.Mathlib.Omega.{arith}
use borrow.Author.Tests.{eqb-true}
use Rattle.std.proofs.Math.Dec.{eqb}
use Rattle.cqf.specs.Bounded.{every, distinct, all_to, any_to}
use Rattle.cqf.specs.Limits.{port_slots, flow_slots, guard_ok, top_ok, rate_ok, length_ok, blocking_ok, extra_ok, period_ok, count_ok, jitter_ok, hops_ok}
use Rattle.cqf.specs.Plan.{Plan, clock_ok, rate_of, blocking_of, extra_of, period_of, count_of, length_of, jitter_of, hops_of, route_of, present, port_in, valid_port, valid_flow, valid_plan}
use Rattle.cqf.proofs.laws.Bounded.{or_cases, all_to-at}
use Rattle.cqf.proofs.laws.Slot.{empty_at, held_at}
use Rattle.plan_reading.specs.laws.fields.Within.{within_low}
use Rattle.plan_reading.specs.laws.fields.Passes.{and_three}

-- a slot that holds a port, and one that holds a flow
pub record PortHeld (p : Plan) (q : ℕ) : Type 0 where
  pub rate : rate_ok (rate_of p q) ≡ true
  pub blocking : blocking_ok (blocking_of p q) ≡ true
  pub extra : extra_ok (extra_of p q) ≡ true

pub record FlowHeld (p : Plan) (f : ℕ) : Type 0 where
  pub period : period_ok (period_of p f) ≡ true
  pub count : count_ok (count_of p f) ≡ true
  pub bytes : length_ok (length_of p f) ≡ true
  pub jitter : jitter_ok (jitter_of p f) ≡ true
  pub hops : hops_ok (hops_of p f) ≡ true
  pub in_plan : every (port_in p.rates) (route_of p f) ≡ true
  pub once : distinct (route_of p f) ≡ true

-- the tests of a valid plan
pub record ValidParts (p : Plan) : Type 0 where
  pub top : top_ok p.top ≡ true
  pub guard : guard_ok p.guard ≡ true
  pub clock : clock_ok p.clock ≡ true
  pub ports : (q : ℕ) → q < port_slots → valid_port p q ≡ true
  pub flows : (f : ℕ) → f < flow_slots → valid_flow p f ≡ true
  pub some : any_to flow_slots (present p) ≡ true

pub parts : (p : Plan) → valid_plan p ≡ true → ValidParts p
unfolding valid_plan
parts p valid =
    let a = and_three _ (all_to flow_slots (valid_flow p)) (any_to flow_slots (present p)) valid in
    let b = and_three _ (clock_ok p.clock) (all_to port_slots (valid_port p)) a.0 in
    let c = (and-eq-true_iff (top_ok p.top) (guard_ok p.guard)).0 b.0 in
    record {
      top = c.0;
      guard = c.1;
      clock = b.1;
      ports = all_to-at port_slots (valid_port p) b.2;
      flows = all_to-at flow_slots (valid_flow p) a.1;
      some = a.2;
    }

module _ (p : Plan) (valid : valid_plan p ≡ true) where
  pub port_held : (q : ℕ) → q < port_slots → (0 < rate_of p q) ⊎ (0 < extra_of p q) → PortHeld p q
  unfolding valid_port
  port_held q l some = or_cases _ (rate_ok (rate_of p q) && blocking_ok (blocking_of p q) && extra_ok (extra_of p q)) ((parts p valid).ports q l) empty held
    where
      empty : (eqb (rate_of p q) 0 && eqb (blocking_of p q) 0 && eqb (extra_of p q) 0) ≡ true → PortHeld p q
      empty h =
          let t = and_three (eqb (rate_of p q) 0) (eqb (blocking_of p q) 0) (eqb (extra_of p q) 0) h in
          absurd (go (eqb-true _ 0 t.0) (eqb-true _ 0 t.2) some)
        where
          go : rate_of p q ≡ 0 → extra_of p q ≡ 0 → (0 < rate_of p q) ⊎ (0 < extra_of p q) → ⊥
          go a b (inl m) = omega arith
          go a b (inr m) = omega arith

      held : (rate_ok (rate_of p q) && blocking_ok (blocking_of p q) && extra_ok (extra_of p q)) ≡ true → PortHeld p q
      held h =
          let t = and_three (rate_ok (rate_of p q)) (blocking_ok (blocking_of p q)) (extra_ok (extra_of p q)) h in
          record { rate = t.0; blocking = t.1; extra = t.2 }

  -- a slot without a port has no blocker
  pub port_empty : (q : ℕ) → q < port_slots → rate_of p q ≡ 0 → blocking_of p q ≡ 0
  unfolding valid_port
  port_empty q l absent = or_cases _ (rate_ok (rate_of p q) && blocking_ok (blocking_of p q) && extra_ok (extra_of p q)) ((parts p valid).ports q l) empty held
    where
      empty : (eqb (rate_of p q) 0 && eqb (blocking_of p q) 0 && eqb (extra_of p q) 0) ≡ true → blocking_of p q ≡ 0
      empty h = eqb-true _ 0 (and_three (eqb (rate_of p q) 0) (eqb (blocking_of p q) 0) (eqb (extra_of p q) 0) h).1

      held : (rate_ok (rate_of p q) && blocking_ok (blocking_of p q) && extra_ok (extra_of p q)) ≡ true → blocking_of p q ≡ 0
      held h =
          let t = and_three (rate_ok (rate_of p q)) (blocking_ok (blocking_of p q)) (extra_ok (extra_of p q)) h in
          absurd (omega (arith, within_low 1 _ (rate_of p q) t.0))

  pub flow_held : (f : ℕ) → f < flow_slots → (0 < period_of p f) ⊎ (0 < jitter_of p f) → FlowHeld p f
  unfolding valid_flow
  flow_held f l some = or_cases (empty_at p f) (held_at p.rates p f) ((parts p valid).flows f l) empty held
    where
      go : period_of p f ≡ 0 → jitter_of p f ≡ 0 → (0 < period_of p f) ⊎ (0 < jitter_of p f) → ⊥
      go a b (inl m) = omega arith
      go a b (inr m) = omega arith

      empty : empty_at p f ≡ true → FlowHeld p f
      empty h =
          let t = simp and-eq-true_iff at h in
          absurd (go (eqb-true _ 0 t.0.0.0.0) (eqb-true _ 0 t.0.1) some)

      held : held_at p.rates p f ≡ true → FlowHeld p f
      held h =
          let ports = every (port_in p.rates) (route_of p f) in
          let a = and_three _ ports (distinct (route_of p f)) h in
          let b = and_three _ (jitter_ok (jitter_of p f)) (hops_ok (hops_of p f)) a.0 in
          let c = and_three (period_ok (period_of p f)) (count_ok (count_of p f)) (length_ok (length_of p f)) b.0 in
          record { period = c.0; count = c.1; bytes = c.2; jitter = b.1; hops = b.2; in_plan = a.1; once = a.2 }
