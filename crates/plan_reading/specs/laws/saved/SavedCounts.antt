-- How many port and flow fields a plan is saved with.
use Prim.Native.Nat.{ℕ, zero, suc, ◌+◌, ◌<◌}
use Rattle.std.specs.Prelude.{◌≡◌, Bool, true, false, cond, not}
use Rattle.std.proofs.Math.Path.{refl, ap}
use Rattle.std.proofs.Common.{◌∙◌}
use mathlib.Core.List.{List, [], ◌∷◌, ◌++◌}
use native.Mathlib.Omega.{arith}
use Rattle.std.proofs.Math.Dec.{ltb}
use Rattle.cqf.specs.Bounded.{count_to}
use Rattle.cqf.specs.Limits.{port_slots, flow_slots}
use Rattle.cqf.specs.Plan.{Plan, clocks_equal, rate_of, extra_of, period_of, jitter_of, valid_plan}
use Rattle.plan.specs.Field.{Field}
use Rattle.plan_reading.specs.Part.{Part, parts_of}
use Rattle.plan_reading.specs.Draft.{Draft, blank, ports_in, flows_in, sum_of, added}
use Rattle.plan_reading.specs.Strict.{Entry, parts_row}
use Rattle.plan_reading.specs.Saved.{spell, when, collect, header_part, port_part, flow_part, extra_part, jitter_part, clock_part, port_parts, flow_parts, extra_parts, jitter_parts, clock_parts, saved_parts, saved_fields}
use Rattle.plan_reading.specs.laws.rows.SavedRow.{added_all}
use Rattle.plan_reading.specs.laws.rows.Spelled.{spelled_parts, spell_in}
use Rattle.plan_reading.specs.laws.rows.RowAccepted.{some_flow}
use Rattle.plan_reading.specs.laws.saved.Says.{jitters_on, extras_on, flows_on}
use Rattle.plan_reading.specs.laws.saved.SavedOk.{saved_flow}

module _ (g : Part → ℕ) where
  pub sum_append : (xs ys : List Part) → sum_of g (xs ++ ys) ≡ sum_of g xs + sum_of g ys
  sum_append [] ys = omega arith
  sum_append (x ∷ xs) ys = omega (arith, sum_append xs ys)

  -- a part where a test holds
  sum_when : (test : Bool) (x : Part) (n : ℕ) → g x ≡ n → sum_of g (when test x) ≡ cond test n 0
  sum_when true x n h = omega arith
  sum_when false x n h = refl

  -- one for each slot in which the test holds, or none at all
  sum_count : (n : ℕ) (at : ℕ → List Part) (test : ℕ → Bool) → ((i : ℕ) → sum_of g (at i) ≡ cond (test i) 1 0) → sum_of g (collect n at) ≡ count_to n test
  unfolding collect count_to
  sum_count zero at test all = refl
  sum_count (suc n) at test all = omega (arith, sum_append (collect n at) (at n), sum_count n at test all, all n)

  sum_none : (n : ℕ) (at : ℕ → List Part) → ((i : ℕ) → sum_of g (at i) ≡ 0) → sum_of g (collect n at) ≡ 0
  unfolding collect
  sum_none zero at all = refl
  sum_none (suc n) at all = omega (arith, sum_append (collect n at) (at n), sum_none n at all, all n)

  none-when : (test : Bool) (x : Part) → g x ≡ 0 → sum_of g (when test x) ≡ 0
  none-when test x h = sum_when test x 0 h ∙ both test
    where
      both : (b : Bool) → cond {A = ℕ} b 0 0 ≡ 0
      both true = refl
      both false = refl

  -- what a row adds to a number of the draft that counts so
  pub Sum-added
      : (count : Draft → ℕ)
      → ((d : Draft) (x : Field) (r : List ℕ) → count (added d x r) ≡ count d + sum_of g (parts_of x r))
      → (d : Draft) (es : List Entry)
      → count (added_all d es) ≡ count d + sum_of g (parts_row es)
  unfolding added_all
  Sum-added count law d [] = omega arith
  Sum-added count law d (e ∷ es) =
      omega (
        arith,
        Sum-added count law (added d e.field e.route) es,
        law d e.field e.route,
        sum_append (parts_of e.field e.route) (parts_row es),
      )

  -- what is saved, kind by kind
  sum_saved
      : (p : Plan)
      → sum_of g (saved_parts p)
      ≡ g (header_part p)
      + (sum_of g (collect port_slots (port_parts p))
      + (sum_of g (collect flow_slots (flow_parts p))
      + (sum_of g (collect port_slots (extra_parts p))
      + (sum_of g (collect flow_slots (jitter_parts p))
      + sum_of g (clock_parts p)))))
  unfolding saved_parts
  sum_saved p =
      omega (
        arith,
        sum_append (collect port_slots (port_parts p)) (flows_on p),
        sum_append (collect flow_slots (flow_parts p)) (extras_on p),
        sum_append (collect port_slots (extra_parts p)) (jitters_on p),
        sum_append (collect flow_slots (jitter_parts p)) (clock_parts p),
      )

module _ (p : Plan) where
  -- as many ports as have a rate
  pub saved_ports : (added_all blank (saved_fields p)).ports ≡ count_to port_slots (λ q. ltb 0 (rate_of p q))
  unfolding added blank
  saved_ports =
      omega (
        arith,
        Sum-added ports_in (λ d. d.ports) (λ d x r. refl) blank (saved_fields p),
        ap (sum_of ports_in) (spelled_parts (saved_parts p)),
        sum_saved ports_in p,
        sum_count ports_in port_slots (port_parts p) (λ q. ltb 0 (rate_of p q)) (λ q. sum_when ports_in (ltb 0 (rate_of p q)) (port_part p q) 1 refl),
        sum_none ports_in flow_slots (flow_parts p) (λ f. none-when ports_in (ltb 0 (period_of p f)) (flow_part p f) refl),
        sum_none ports_in port_slots (extra_parts p) (λ q. none-when ports_in (ltb 0 (extra_of p q)) (extra_part p q) refl),
        sum_none ports_in flow_slots (jitter_parts p) (λ f. none-when ports_in (ltb 0 (jitter_of p f)) (jitter_part p f) refl),
        none-when ports_in (not (clocks_equal p)) (clock_part p) refl,
      )

  -- as many flows as have a period
  pub saved_flows : (added_all blank (saved_fields p)).flows ≡ count_to flow_slots (λ f. ltb 0 (period_of p f))
  unfolding added blank
  saved_flows =
      omega (
        arith,
        Sum-added flows_in (λ d. d.flows) (λ d x r. refl) blank (saved_fields p),
        ap (sum_of flows_in) (spelled_parts (saved_parts p)),
        sum_saved flows_in p,
        sum_none flows_in port_slots (port_parts p) (λ q. none-when flows_in (ltb 0 (rate_of p q)) (port_part p q) refl),
        sum_count flows_in flow_slots (flow_parts p) (λ f. ltb 0 (period_of p f)) (λ f. sum_when flows_in (ltb 0 (period_of p f)) (flow_part p f) 1 refl),
        sum_none flows_in port_slots (extra_parts p) (λ q. none-when flows_in (ltb 0 (extra_of p q)) (extra_part p q) refl),
        sum_none flows_in flow_slots (jitter_parts p) (λ f. none-when flows_in (ltb 0 (jitter_of p f)) (jitter_part p f) refl),
        none-when flows_in (not (clocks_equal p)) (clock_part p) refl,
      )

  -- a valid plan has one
  pub saved_some : valid_plan p ≡ true → 0 < (added_all blank (saved_fields p)).flows
  saved_some valid =
      let f = saved_flow p valid in
      some_flow blank (saved_fields p) (spell (flow_part p f.0)) (spell_in (saved_parts p) f.1) refl
