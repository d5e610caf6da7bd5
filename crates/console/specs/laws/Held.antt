-- A plan on the input that is held is valid, and is saved as no more bytes than a plan may have.
use Rattle.std.specs.Prelude.{◌≡◌, refl, Bool, true, false, List, ℕ, ◌≤◌, length, take, Option, Some, None}
use Rattle.std.proofs.Common.{sym, ap, ◌∙◌, subst, arith}
use Rattle.cqf.specs.Form.{Form, older, newer, form_number, form_from, form_fits}
use Rattle.cqf.specs.Plan.{Plan, no_plan, valid_plan}
use Rattle.cqf.proofs.laws.Ranges.{top_positive}
use Rattle.plan.specs.Layout.{form_by}
use Rattle.plan_reading.specs.Reading.{PlanRead, accepted, rejected, loose, read_as_of, max_bytes}
use Rattle.plan_reading.specs.Saved.{form_bytes}
use Rattle.plan_reading.specs.results.FormTheorem.{form_length}
use Rattle.plan_reading.specs.results.StrictTheorem.{read_loosely}
use Rattle.plan_reading.specs.laws.validity.Valid.{accepted_valid}
use Rattle.tables.specs.Tables.{plan_of}
use Rattle.tables.specs.declared.Planner.{Planner}
use Rattle.answers.specs.Answer.{result}
use Rattle.loading.specs.Outcome.{Fields, reading_form, load_form}
use Rattle.loading.specs.Answer.{load_of, Loads}
use Rattle.loading.specs.laws.Load.{accepted_leaves, refused_answer}
use Rattle.loading.specs.declared.LoadOutcome.{LoadOutcome}
use Rattle.console.specs.{LoadedAs, LoadedInput}

-- the plan of the input and the form that it is held in
pub record HeldInput (outcome : LoadOutcome) : Type 0 where
  pub bytes : List ℕ
  pub plan : Plan
  pub ports : ℕ
  pub flows : ℕ
  pub reads : read_as_of loose bytes ≡ accepted plan ports flows
  pub holds : plan_of outcome.planner ≡ plan
  pub formed : outcome.planner.form ≡ form_number (form_by bytes)

-- the load of the bytes that were read
loads : (outcome : LoadOutcome) (l : LoadedInput (Some outcome)) → (bytes : List ℕ) × Loads loose no_plan 0 bytes outcome
loads outcome l = go l.read l.loaded
  where
    go : (r : Option ℕ) → LoadedAs l.buffer r (Some outcome) → (bytes : List ℕ) × Loads loose no_plan 0 bytes outcome
    go (Some n) d = (take n l.buffer, d)
    go None d = absurd d

pub held_input : (outcome : LoadOutcome) {fields : Fields} → LoadedInput (Some outcome) → load_of outcome.answer ≡ result fields → HeldInput outcome
unfolding load_form
held_input outcome l held = go (read_as_of loose bytes) refl
  where
    bytes : List ℕ
    bytes = (loads outcome l).0

    d : Loads loose no_plan 0 bytes outcome
    d = (loads outcome l).1

    go : (r : PlanRead) → read_as_of loose bytes ≡ r → HeldInput outcome
    go (accepted p ports flows) e =
        record {
          bytes = bytes;
          plan = p;
          ports = ports;
          flows = flows;
          reads = e;
          holds = d.leaves ∙ accepted_leaves loose no_plan bytes p ports flows e;
          formed = d.formed ∙ ap (reading_form 0 (form_number (form_by bytes))) e;
        }
    go (rejected number offset) e =
        let refused = sym (d.answers ∙ refused_answer loose bytes number offset e) ∙ held in
        let z : ◌≡◌ {A = ℕ} 0 1 = cc in
        absurd (omega arith)

pub held_valid
    : (outcome : LoadOutcome) {fields : Fields}
    → LoadedInput (Some outcome)
    → load_of outcome.answer ≡ result fields
    → valid_plan (plan_of outcome.planner) ≡ true
held_valid outcome l held =
    let h = held_input outcome l held in
    rw h.holds (accepted_valid h.bytes h.plan h.ports h.flows (read_loosely loose h.bytes h.plan h.ports h.flows h.reads))

-- it is saved as no more bytes than a plan may have
pub held_short
    : (outcome : LoadOutcome) {fields : Fields}
    → LoadedInput (Some outcome)
    → load_of outcome.answer ≡ result fields
    → length (form_bytes (form_from outcome.planner.form) (plan_of outcome.planner)) ≤ max_bytes
held_short outcome l held =
    let h = held_input outcome l held in
    let form : form_from outcome.planner.form ≡ form_by h.bytes = ap form_from h.formed ∙ form_of (form_by h.bytes) in
    subst (λ (f : Form). length (form_bytes f (plan_of outcome.planner)) ≤ max_bytes) (sym form)
    (subst (λ (p : Plan). length (form_bytes (form_by h.bytes) p) ≤ max_bytes) (sym h.holds)
    (form_length loose h.bytes h.plan h.ports h.flows h.reads))
  where
    form_of : (form : Form) → form_from (form_number form) ≡ form
    form_of older = refl
    form_of newer = refl

-- the top of a plan that is held is the planner's own
pub held_top_lem : (s : Planner) → valid_plan (plan_of s) ≡ true → (plan_of s).top ≡ s.top
held_top_lem s valid = go (form_fits s.form s.hops) refl
  where
    go : (b : Bool) → form_fits s.form s.hops ≡ b → (plan_of s).top ≡ s.top
    go true e = rw e
    go false e =
        let none : (plan_of s).top ≡ 0 = rw e in
        absurd (omega (arith, top_positive (plan_of s) valid))
