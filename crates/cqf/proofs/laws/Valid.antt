-- What a valid plan gives of each of its slots.
use Rattle.std.specs.Prelude.{◌≡◌, ◌⊎◌, Bool, true, ◌&&◌, ℕ, ◌≤◌, ◌<◌}
use Rattle.std.proofs.Math.Logic.{inl, inr}
use Rattle.std.proofs.lemmas.Bool.{false≢true}
use Rattle.std.proofs.Math.Bool.{and-eq-true_iff}
use Rattle.std.proofs.Common.{arith, eqb-true, ltb-true, leb-true, lt-ltb}
use Rattle.cqf.specs.Bounded.{elem, distinct, every, sublist, all_to, any_to}
use Rattle.cqf.specs.Limits.{port_slots, flow_slots, max_hops, max_jitter, guard_ok, top_ok}
use Rattle.cqf.specs.Plan.{Plan, period_of, count_of, length_of, jitter_of, hops_of, route_of, present, crosses, port_in, clock_ok, valid_port, valid_flow, valid_plan}
use Rattle.cqf.proofs.laws.Bounded.{or_cases, all_to-at}
use Rattle.cqf.proofs.laws.Slot.{empty_at, held_at}

-- a plan is valid as its six tests say
pub valid_by
    : (p : Plan) {top guard clock ports flows some : Bool}
    → top_ok p.top ≡ top
    → guard_ok p.guard ≡ guard
    → clock_ok p.clock ≡ clock
    → all_to port_slots (valid_port p) ≡ ports
    → all_to flow_slots (valid_flow p) ≡ flows
    → any_to flow_slots (present p) ≡ some
    → valid_plan p ≡ top && guard && clock && ports && flows && some
unfolding valid_plan
valid_by p e1 e2 e3 e4 e5 e6 = λ i. e1 i && e2 i && e3 i && e4 i && e5 i && e6 i

-- a slot without a flow
pub record Empty (p : Plan) (f : ℕ) : Type 0 where
  pub period : period_of p f ≡ 0
  pub count : count_of p f ≡ 0
  pub bytes : length_of p f ≡ 0
  pub jitter : jitter_of p f ≡ 0
  pub hops : hops_of p f ≡ 0

-- a slot with a flow
pub record Held (p : Plan) (f : ℕ) : Type 0 where
  pub period_least : 1000 ≤ period_of p f
  pub period_most : period_of p f ≤ 100000000
  pub count_least : 1 ≤ count_of p f
  pub count_most : count_of p f ≤ 64
  pub bytes_most : length_of p f ≤ 2000
  pub jitter_most : jitter_of p f ≤ max_jitter
  pub hops_least : 1 ≤ hops_of p f
  pub hops_most : hops_of p f ≤ max_hops
  pub in_plan : every (port_in p.rates) (route_of p f) ≡ true
  pub once : distinct (route_of p f) ≡ true

-- its period is above 0
pub held_period : (p : Plan) (f : ℕ) → Held p f → 0 < period_of p f
held_period p f flow = omega (arith, flow.period_least)

-- what each test of a slot says
empty : (p : Plan) (f : ℕ) → empty_at p f ≡ true → Empty p f
empty p f h =
    let t = simp and-eq-true_iff at h in
    record {
      period = eqb-true _ _ t.0.0.0.0;
      count = eqb-true _ _ t.0.0.0.1;
      bytes = eqb-true _ _ t.0.0.1;
      jitter = eqb-true _ _ t.0.1;
      hops = eqb-true _ _ t.1;
    }

held : (p : Plan) (f : ℕ) → held_at p.rates p f ≡ true → Held p f
held p f h =
    let t = simp and-eq-true_iff at h in
    record {
      period_least = leb-true _ _ t.0.0.0.0.0.0.0;
      period_most = leb-true _ _ t.0.0.0.0.0.0.1;
      count_least = leb-true _ _ t.0.0.0.0.0.1.0;
      count_most = leb-true _ _ t.0.0.0.0.0.1.1;
      bytes_most = leb-true _ _ t.0.0.0.0.1.1;
      jitter_most = leb-true _ _ t.0.0.0.1.1;
      hops_least = leb-true _ _ t.0.0.1.0;
      hops_most = leb-true _ _ t.0.0.1.1;
      in_plan = t.0.1;
      once = t.1;
    }

-- a flow that is present has a period
pub present_period : (p : Plan) (f : ℕ) → present p f ≡ true → 0 < period_of p f
present_period p f h = let t = simp and-eq-true_iff at h in ltb-true _ _ t.1

module _ (p : Plan) (valid : valid_plan p ≡ true) where
  -- each flow's slot is valid
  pub flows_valid : (f : ℕ) → f < flow_slots → valid_flow p f ≡ true
  unfolding valid_plan
  flows_valid = let h = simp and-eq-true_iff at valid in all_to-at flow_slots (valid_flow p) h.0.1

  -- each slot is empty or holds a flow in range
  pub slot_cases : (f : ℕ) → f < flow_slots → Empty p f ⊎ Held p f
  unfolding valid_flow
  slot_cases f l =
      or_cases (empty_at p f) (held_at p.rates p f) (flows_valid f l) (λ h. inl (empty p f h)) (λ h. inr (held p f h))

  -- a flow that is present is in its range
  pub present_slot : (f : ℕ) → present p f ≡ true → f < flow_slots
  present_slot f h = let t = simp and-eq-true_iff at h in ltb-true _ _ t.0

  pub present_held : (f : ℕ) → present p f ≡ true → Held p f
  present_held f h = go (slot_cases f (present_slot f h))
    where
      go : Empty p f ⊎ Held p f → Held p f
      go (inl e) =
          absurd (omega (arith, e.period, present_period p f h))
      go (inr e) = e

  -- a flow that crosses a port is present
  pub crosses_held : (f q : ℕ) → f < flow_slots → crosses p f q ≡ true → Held p f
  unfolding sublist elem
  crosses_held f q l h = go (slot_cases f l)
    where
      go : Empty p f ⊎ Held p f → Held p f
      go (inl e) = absurd (false≢true (rw e.hops at h))
      go (inr e) = e

-- a slot that holds a flow is one of a flow that is present
pub held_present : (p : Plan) (f : ℕ) → f < flow_slots → Held p f → present p f ≡ true
held_present p f l e = rw (lt-ltb f flow_slots l, lt-ltb 0 (period_of p f) (held_period p f e))
