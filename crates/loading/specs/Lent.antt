-- Tables that are lent column by column, and what a load leaves in them.
use Rattle.std.specs.Prelude.{ℕ, ◌≡◌, List, Result}
use Rattle.cqf.specs.Form.{Form, held_top}
use Rattle.cqf.specs.Plan.{Plan, no_plan}
use Rattle.plan_reading.specs.Reading.{Mode}
use Rattle.tables.specs.Columns.{plan_by}
use Rattle.loading.specs.Answer.{load_of}
use Rattle.loading.specs.Outcome.{form_answer, form_leaves, load_answer, load_leaves, load_form}
use Rattle.plan.specs.declared.Refusal.{Refusal}
use Rattle.loading.specs.declared.Loaded.{Loaded}

-- what is lent: the form's number beside the tables, each number as it stands
pub record Lent : Type 0 where
  pub form : ℕ
  pub tables : Plan

abbrev pub lent
    : (form guard top drift timing_jitter_of sync_error_of : ℕ) (rates blockings extras periods counts lengths jitters hops routes : List ℕ)
    → Lent
lent form guard top drift timing_jitter_of sync_error_of rates blockings extras periods counts lengths jitters hops routes =
    record {
      form = form;
      tables = plan_by guard top (record { drift = drift; timing_jitter_of = timing_jitter_of; sync_error_of = sync_error_of }) rates blockings extras periods counts lengths jitters hops routes;
    }

-- the plan that it holds: that of a planner with these numbers, by the top that the form's number allows
abbrev pub lent_plan : Lent → Plan
lent_plan l =
    let p = l.tables in
    plan_by p.guard (held_top l.form p.hops p.top) p.clock p.rates p.blockings p.extras p.periods p.counts p.lengths p.jitters
    p.hops p.routes

-- what holds no plan: every number is 0
abbrev pub none_lent : Lent
none_lent = record { form = 0; tables = no_plan }

-- a load of these bytes in this reading: each number that it leaves, the plan that is then held, and its answer
pub record LoadsLent (mode : Mode) (entry : Lent) (bytes : List ℕ) (exit : Lent) (answer : Result Loaded Refusal) : Type 0 where
  pub leaves : exit.tables ≡ load_leaves mode entry.tables bytes
  pub formed : exit.form ≡ load_form mode entry.form bytes
  pub holds : lent_plan exit ≡ load_leaves mode (lent_plan entry) bytes
  pub answers : load_of answer ≡ load_answer mode bytes

-- bytes read as a plan of this form, in this reading, into columns that held none: the plan that is then in them, and the answer
pub record ReadsForm (form : Form) (mode : Mode) (bytes : List ℕ) (exit : Plan) (answer : Result Loaded Refusal) : Type 0 where
  pub leaves : exit ≡ form_leaves form mode no_plan bytes
  pub answers : load_of answer ≡ form_answer form mode bytes
