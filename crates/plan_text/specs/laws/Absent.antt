-- Laws of ports that are not in the plan.
use Rattle.std.specs.Prelude.{ℕ, zero, suc, ◌-◌, ◌≤◌, ◌≡◌, List, ◌∷◌, get_or, eqb}
use Rattle.std.proofs.Math.Path.{refl, ap}
use Rattle.std.proofs.Common.{sym, ◌∙◌, arith, eq-eqb, ne_eqb}
use Rattle.std.proofs.Math.Bool.{true, false, not}
use Rattle.cqf.specs.Bounded.{sublist}
use Rattle.cqf.specs.Plan.{port_in}
use Rattle.plan_text.specs.Line.{form_by}
use Rattle.plan_text.specs.Text.{Draft, Absent, missing, missing_of, lower, absent_to, absent_in, reads, rejected, closing}
use Rattle.plan_text.specs.declared.grammar.Item.{Item}
use Rattle.plan_text.specs.declared.grammar.Fault.{Fault}

pub rate_slot : (rates : List ℕ) (n : ℕ) → 1 ≤ n → get_or (0 ∷ rates) n 0 ≡ get_or rates (n - 1) 0
rate_slot rates zero low = absurd (omega arith)
rate_slot rates (suc m) low = ap (λ (k : ℕ). get_or rates k 0) (omega arith)

-- the ports of a route from a position on
module _ (rates routes : List ℕ) (at left : ℕ) where
  pub missing_here : port_in rates (get_or routes at 0) ≡ false → missing rates (sublist routes at (suc left)) ≡ get_or routes at 0
  unfolding missing sublist
  missing_here e = rw e

  pub missing-next : port_in rates (get_or routes at 0) ≡ true → missing rates (sublist routes at (suc left)) ≡ missing rates (sublist routes (suc at) left)
  unfolding missing sublist
  missing-next e = rw e

pub missing-none : (rates routes : List ℕ) (at : ℕ) → missing rates (sublist routes at 0) ≡ 0
unfolding missing sublist
missing-none rates routes at = refl

module _ (rates hops routes lines : List ℕ) where
  pub absent_none : absent_to 0 rates hops routes lines ≡ record { line = 0; named = 0 }
  unfolding absent_to
  absent_none = refl

  pub absent_more : (f : ℕ) → absent_to (suc f) rates hops routes lines ≡ lower (absent_to f rates hops routes lines) (get_or lines f 0) (missing_of rates hops routes f)
  unfolding absent_to
  absent_more f = refl

-- the end of a reading
module _ (d : Draft) (n : ℕ) where
  pub no_guard : not d.guarded ≡ true → closing d n ≡ rejected n Fault.Incomplete Item.Guard 0
  unfolding closing
  no_guard e = rw e

  module _ (guarded : not d.guarded ≡ false) where
    pub no_top : not d.topped ≡ true → closing d n ≡ rejected n Fault.Incomplete Item.Top 0
    unfolding closing
    no_top e = rw (guarded, e)

    module _ (topped : not d.topped ≡ false) where
      pub no_flow : not d.flowing ≡ true → closing d n ≡ rejected n Fault.Incomplete Item.Flow 0
      unfolding closing
      no_flow e = rw (guarded, topped, e)

      module _ (flowing : not d.flowing ≡ false) {a : Absent} (is : a ≡ absent_in d) where
        pub one_absent : (a.named ≡ 0 → ⊥) → closing d n ≡ rejected a.line Fault.Absent Item.Route a.named
        unfolding closing
        one_absent some =
            let e : not (eqb (absent_in d).named 0) ≡ true = ap (λ (x : Absent). not (eqb x.named 0)) (sym is) ∙ ap not (ne_eqb a.named 0 some) in
            rw (guarded, topped, flowing, e) (ap (λ (x : Absent). rejected x.line Fault.Absent Item.Route x.named) (sym is))

        pub none_absent : a.named ≡ 0 → closing d n ≡ reads (form_by d.newer) d.tables
        unfolding closing
        none_absent none =
            let e : not (eqb (absent_in d).named 0) ≡ false = ap (λ (x : Absent). not (eqb x.named 0)) (sym is) ∙ ap not (eq-eqb a.named 0 none) in
            rw (guarded, topped, flowing, e)
