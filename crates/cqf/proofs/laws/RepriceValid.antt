-- A flow of a valid plan has a slot in the table of lengths, and with another length in range the plan is valid.
use Rattle.std.specs.Prelude.{◌≡◌, ◌≢◌, Bool, ◌&&◌, ◌||◌, ℕ, ◌<◌, length}
use Rattle.std.proofs.Math.Path.{ap}
use Rattle.std.proofs.Common.{◌∙◌, arith, get_or-set_same, get_or-set_other}
use Rattle.std.proofs.Math.Bool.{true, or-true, and-eq-true_iff}
use Rattle.std.proofs.Math.Decide.{dec_lt, ℕ_discrete}
use Rattle.std.proofs.Math.ListN.{get_or-eq_default}
use borrow.Author.Tests.{eqb-true, leb-true}
use Rattle.cqf.specs.Bounded.{all_to, any_to, every, distinct}
use Rattle.cqf.specs.Limits.{port_slots, flow_slots, top_ok, guard_ok, period_ok, count_ok, length_ok, jitter_ok, hops_ok}
use Rattle.cqf.specs.Plan.{Plan, period_of, count_of, length_of, jitter_of, hops_of, route_of, present, port_in, clock_ok, valid_port, valid_flow, valid_plan}
use Rattle.cqf.specs.Reprice.{with_length}
use Rattle.cqf.proofs.laws.Bounded.{or_cases, all_to-every}
use Rattle.cqf.proofs.laws.Slot.{empty_at, held_at}
use Rattle.cqf.proofs.laws.Valid.{present_slot, present_period, flows_valid}

-- the tests of a slot with another length, and of a plan with other flows
other_length
    : (a b c d e g h c' : Bool)
    → a && b && c && d && e && g && h ≡ true
    → c' ≡ true
    → a && b && c' && d && e && g && h ≡ true
other_length a b c d e g h c' k r =
    let t = simp and-eq-true_iff at k in
    rw (r, t.0.0.0.0.0.0, t.0.0.0.0.0.1, t.0.0.0.1, t.0.0.1, t.0.1, t.1)

other_flows : (a b c d e g e' : Bool) → a && b && c && d && e && g ≡ true → e' ≡ true → a && b && c && d && e' && g ≡ true
other_flows a b c d e g e' k r =
    let t = simp and-eq-true_iff at k in
    rw (r, t.0.0.0.0.0, t.0.0.0.0.1, t.0.0.0.1, t.0.0.1, t.1)

module _ (p : Plan) (valid : valid_plan p ≡ true) (f : ℕ) (there : present p f ≡ true) where
  -- the tests of its slot
  held_flow : held_at p.rates p f ≡ true
  unfolding valid_flow
  held_flow =
      or_cases (empty_at p f) (held_at p.rates p f) (flows_valid p valid f (present_slot p valid f there))
      (λ e. let t = simp and-eq-true_iff at e in absurd (omega (arith, eqb-true (period_of p f) 0 t.0.0.0.0, present_period p f there)))
      (λ e. e)

  pub length_slot : f < length p.lengths
  length_slot = go (dec_lt f (length p.lengths))
    where
      go : Dec (f < length p.lengths) → f < length p.lengths
      go (yes l) = l
      go (no l) =
          let t = simp and-eq-true_iff at held_flow in
          absurd (omega (arith, leb-true 64 (length_of p f) t.0.0.0.0.1.0, get_or-eq_default p.lengths 0 {n = f} (omega arith)))

  module _ (bytes : ℕ) (ok : length_ok bytes ≡ true) where
    -- its own slot with that length, and any other
    here_valid : valid_flow (with_length p f bytes) f ≡ true
    unfolding with_length valid_flow
    here_valid =
        let held : held_at p.rates (with_length p f bytes) f ≡ true =
        other_length (period_ok (period_of p f)) (count_ok (count_of p f)) (length_ok (length_of p f)) (jitter_ok (jitter_of p f)) (hops_ok (hops_of p f)) (every (port_in p.rates) (route_of p f)) (distinct (route_of p f)) _ held_flow (ap length_ok (get_or-set_same p.lengths f bytes 0 length_slot) ∙ ok) in
        ap (λ (b : Bool). empty_at (with_length p f bytes) f || b) held ∙ or-true (empty_at (with_length p f bytes) f)

    other_valid : (g : ℕ) → g < flow_slots → g ≢ f → valid_flow (with_length p f bytes) g ≡ true
    unfolding with_length valid_flow
    other_valid g l ne = rw (get_or-set_other p.lengths f g bytes 0 ne) (flows_valid p valid g l)

    each_valid : (g : ℕ) → g < flow_slots → valid_flow (with_length p f bytes) g ≡ true
    each_valid g l = go (ℕ_discrete g f)
      where
        go : Dec (g ≡ f) → valid_flow (with_length p f bytes) g ≡ true
        go (yes e) = rw e here_valid
        go (no ne) = other_valid g l ne

    pub length_valid : valid_plan (with_length p f bytes) ≡ true
    unfolding with_length valid_plan valid_port
    length_valid =
        let flows = all_to-every flow_slots (valid_flow (with_length p f bytes)) each_valid in
        other_flows (top_ok p.top) (guard_ok p.guard) (clock_ok p.clock) (all_to port_slots (valid_port p)) (all_to flow_slots (valid_flow p)) (any_to flow_slots (present p)) _ valid flows
