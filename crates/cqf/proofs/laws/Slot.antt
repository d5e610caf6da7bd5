-- The two tests of a flow's slot, either of which makes it valid, and the slot number by number.
use Rattle.std.specs.Prelude.{◌≡◌, Bool, true, false, ◌&&◌, List, ℕ, ◌≤◌, eqb}
use Rattle.std.proofs.Math.Bool.{or-false, and-eq-true_iff}
use borrow.Author.Tests.{ne_eqb, leb-true}
use Rattle.cqf.specs.Bounded.{distinct, every}
use Rattle.cqf.specs.Limits.{max_hops, period_ok, count_ok, length_ok, jitter_ok, hops_ok}
use Rattle.cqf.specs.Plan.{Plan, period_of, count_of, length_of, jitter_of, hops_of, route_of, port_in, valid_flow}

-- slot f is empty
abbrev pub empty_at : Plan → ℕ → Bool
empty_at p f = eqb (period_of p f) 0 && eqb (count_of p f) 0 && eqb (length_of p f) 0 && eqb (jitter_of p f) 0 && eqb (hops_of p f) 0

-- the five numbers of its flow are in range
abbrev pub ranged : Plan → ℕ → Bool
ranged p f = period_ok (period_of p f) && count_ok (count_of p f) && length_ok (length_of p f) && jitter_ok (jitter_of p f) && hops_ok (hops_of p f)

-- it holds a flow in range over distinct ports with these rates
abbrev pub held_at : List ℕ → Plan → ℕ → Bool
held_at rates p f = ranged p f && every (port_in rates) (route_of p f) && distinct (route_of p f)

module _ (p : Plan) (f : ℕ) where
  -- an empty slot has only 0
  pub slot_count : period_of p f ≡ 0 → (count_of p f ≡ 0 → ⊥) → valid_flow p f ≡ false
  unfolding valid_flow
  slot_count e ne = rw (e, ne_eqb (count_of p f) 0 ne)

  pub slot_length : period_of p f ≡ 0 → count_of p f ≡ 0 → (length_of p f ≡ 0 → ⊥) → valid_flow p f ≡ false
  unfolding valid_flow
  slot_length e d ne = rw (e, d, ne_eqb (length_of p f) 0 ne)

  pub slot_jitter : period_of p f ≡ 0 → count_of p f ≡ 0 → length_of p f ≡ 0 → (jitter_of p f ≡ 0 → ⊥) → valid_flow p f ≡ false
  unfolding valid_flow
  slot_jitter e d c ne = rw (e, d, c, ne_eqb (jitter_of p f) 0 ne)

  pub slot_hops
      : period_of p f ≡ 0
      → count_of p f ≡ 0
      → length_of p f ≡ 0
      → jitter_of p f ≡ 0
      → valid_flow p f ≡ eqb (hops_of p f) 0
  unfolding valid_flow
  slot_hops e d c j = rw (e, d, c, j) (or-false (eqb (hops_of p f) 0))

  -- any other slot is as valid as its range and its route
  valid_by_route
      : (r : Bool)
      → ranged p f ≡ r
      → (period_of p f ≡ 0 → ⊥)
      → valid_flow p f ≡ (r && every (port_in p.rates) (route_of p f) && distinct (route_of p f))
  unfolding valid_flow
  valid_by_route r e ne = rw (ne_eqb (period_of p f) 0 ne, e)

  pub slot_range : (period_of p f ≡ 0 → ⊥) → ranged p f ≡ false → valid_flow p f ≡ false
  slot_range ne e = valid_by_route false e ne

  pub slot_route
      : (period_of p f ≡ 0 → ⊥)
      → ranged p f ≡ true
      → valid_flow p f ≡ every (port_in p.rates) (route_of p f) && distinct (route_of p f)
  slot_route ne e = valid_by_route true e ne

  pub ranged_hops : ranged p f ≡ true → hops_of p f ≤ max_hops
  ranged_hops e = let t = simp and-eq-true_iff at e in leb-true (hops_of p f) max_hops t.1.1
