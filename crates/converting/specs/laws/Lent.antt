-- A planner that is lent after a reading.
use Rattle.std.specs.Prelude.{ℕ, ◌≡◌, List, Result}
use Rattle.std.proofs.Common.{◌∙◌}
use Rattle.answers.specs.Answer.{result}
use Rattle.cqf.specs.Form.{Form}
use Rattle.cqf.specs.Plan.{no_plan}
use Rattle.plan.specs.declared.Refusal.{Refusal}
use Rattle.plan_reading.specs.Reading.{Mode}
use Rattle.tables.specs.Lent.{plan_lent, LentOf}
use Rattle.tables.specs.declared.Planner.{Planner}
use Rattle.tables.specs.declared.lending.Lent.{Lent}
use Rattle.loading.specs.declared.Loaded.{Loaded}
use Rattle.loading.specs.Answer.{load_of}
use Rattle.loading.specs.Lent.{ReadsForm}
use Rattle.loading.specs.Loading.{tables_of}
use Rattle.loading.specs.Outcome.{Fields}
use Rattle.converting.specs.laws.Convert.{Read, read_held}

-- it holds what its tables do
lent_tables : (t : Planner) (l : Lent) → LentOf t l → plan_lent l ≡ tables_of t
lent_tables t l e =
    rw (e.guard, e.top, e.clock, e.rates, e.blockings, e.extras, e.periods, e.counts, e.lengths, e.jitters, e.hops, e.routes)

-- so it is lent with the plan that was read
pub read_lent
    : (form : Form) (mode : Mode) (s : List ℕ) (t : Planner) (l : Lent) {answer : Result Loaded Refusal} {n : Fields}
    → LentOf t l
    → result n ≡ load_of answer
    → ReadsForm form mode s (tables_of t) answer
    → Read form mode s (plan_lent l)
read_lent form mode s t l lent was r = read_held form mode no_plan s _ _ (was ∙ r.answers) (lent_tables t l lent ∙ r.leaves)
