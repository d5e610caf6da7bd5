-- Tables that hold no plan, and no form's number, are all 0.
use Rattle.std.specs.Prelude.{◌≡◌, true}
use Rattle.std.proofs.Common.{sym, ap, ◌∙◌, arith}
use Rattle.cqf.specs.Form.{form_fits, older}
use Rattle.cqf.specs.Limits.{flow_slots}
use Rattle.cqf.specs.Plan.{no_plan}
use Rattle.plan_reading.specs.laws.reading.Fits.{few_fits}
use Rattle.plan_reading.specs.laws.stores.Columns.{zeros}
use Rattle.tables.specs.Tables.{plan_of}
use Rattle.tables.specs.laws.Forms.{fits_plan}
use Rattle.tables.specs.declared.Planner.{Planner}
use Rattle.loading.specs.Loading.{tables_of}

no_plan_fits : form_fits 0 no_plan.hops ≡ true
unfolding no_plan
no_plan_fits = few_fits older _ (λ f l. omega (arith, zeros flow_slots f))

pub empty_tables : (t : Planner) → plan_of t ≡ no_plan → t.form ≡ 0 → tables_of t ≡ no_plan
empty_tables t none formed =
    let fits : form_fits t.form t.hops ≡ true = rw (formed, ap (λ p. p.hops) none) no_plan_fits in
    sym (fits_plan t fits) ∙ none
