-- The end of a plan's text: no port of a route is missing. And a plan with 0 in each place past its routes is saved as the plan is.
use Rattle.std.specs.Prelude.{ℕ, zero, suc, ◌≤◌, ◌<◌, ◌≡◌, refl, ◌⊎◌, List, [], ◌∷◌}
use Rattle.std.proofs.Math.Path.{ap}
use Rattle.std.proofs.Common.{◌∙◌, inl, inr, arith}
use Rattle.std.proofs.Math.Bool.{true, and-eq-true_iff}
use Rattle.cqf.specs.Bounded.{every, sublist}
use Rattle.cqf.specs.Limits.{flow_slots, route_stride}
use Rattle.cqf.specs.Plan.{Plan, hops_of, route_of, port_in, valid_plan}
use Rattle.cqf.proofs.laws.Valid.{Empty, Held, slot_cases}
use Rattle.plan_reading.specs.Tidy.{tidied}
use Rattle.plan_reading.specs.laws.saved.Tidy.{tidied_route}
use Rattle.plan_text.specs.Text.{Absent, missing, missing_of, absent_to}
use Rattle.plan_text.specs.laws.Absent.{absent_none, absent_more}

-- where all ports of a route are in the plan none is missing
none-missing : (rates r : List ℕ) → every (port_in rates) r ≡ true → missing rates r ≡ 0
unfolding missing every
none-missing rates [] e = refl
none-missing rates (n ∷ r) e =
    let t = (and-eq-true_iff (port_in rates n) (every (port_in rates) r)).0 e in
    rw t.0 (none-missing rates r t.1)

none_absent_to : (n : ℕ) (rates hops routes lines : List ℕ) → ((f : ℕ) → f < n → missing_of rates hops routes f ≡ 0) → (absent_to n rates hops routes lines).named ≡ 0
none_absent_to zero rates hops routes lines none = ap (λ (a : Absent). a.named) (absent_none rates hops routes lines)
none_absent_to (suc n) rates hops routes lines none =
    ap (λ (a : Absent). a.named) (absent_more rates hops routes lines n)
    ∙ rw (none n (omega arith)) (none_absent_to n rates hops routes lines (λ f l. none f (omega arith)))

module _ (p : Plan) (valid : valid_plan p ≡ true) where
  few_hops : (f : ℕ) → f < flow_slots → hops_of p f ≤ route_stride
  few_hops f l = go (slot_cases p valid f l)
    where
      go : Empty p f ⊎ Held p f → hops_of p f ≤ route_stride
      go (inl none) = omega (arith, none.hops)
      go (inr held) = omega (arith, held.hops_most)

  -- each flow keeps its route
  pub same_route : (f : ℕ) → f < flow_slots → route_of (tidied p) f ≡ route_of p f
  same_route f l = tidied_route p f l (few_hops f l)

  flow_in : (f : ℕ) → f < flow_slots → every (port_in p.rates) (route_of p f) ≡ true
  unfolding sublist every
  flow_in f l = go (slot_cases p valid f l)
    where
      go : Empty p f ⊎ Held p f → every (port_in p.rates) (route_of p f) ≡ true
      go (inl none) = rw none.hops
      go (inr held) = held.in_plan

  pub plan_absent : (lines : List ℕ) → (absent_to flow_slots (tidied p).rates (tidied p).hops (tidied p).routes lines).named ≡ 0
  unfolding tidied
  plan_absent lines =
      none_absent_to flow_slots (tidied p).rates (tidied p).hops (tidied p).routes lines
      (λ f l. ap (missing p.rates) (same_route f l) ∙ none-missing p.rates (route_of p f) (flow_in f l))
