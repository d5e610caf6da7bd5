-- Laws of what a converter answers and leaves, by what was read.
use Rattle.std.specs.Prelude.{ℕ, ◌≤◌, ◌<◌, List, [], ◌∷◌, Bool, leb, ltb, length}
use Rattle.std.proofs.Math.Path.{◌≡◌, refl, ap}
use Rattle.std.proofs.Common.{sym, ◌∙◌, lt-ltb, le-ltb}
use Rattle.std.proofs.Math.Bool.{true, false, cond}
use native.Mathlib.Omega.{arith}
use Rattle.answers.specs.Answer.{Answer, result, refusal, refusal_number}
use Rattle.answers.specs.Refusals.{short_buffer, no_plan_held, long_route}
use Rattle.cqf.specs.Form.{Form, older, newer}
use Rattle.cqf.specs.Plan.{Plan, valid_plan}
use Rattle.plan_reading.specs.Reading.{PlanRead, accepted, rejected, Mode, loose, strict, read_form}
use Rattle.plan_reading.specs.Saved.{form_bytes}
use Rattle.plan_reading.specs.laws.reading.Fits.{form_accepted}
use Rattle.plan_reading.specs.laws.validity.Valid.{accepted_valid}
use Rattle.plan_reading.specs.results.StrictTheorem.{read_loosely}
use Rattle.loading.specs.Outcome.{Fields, reading_answer, reading_leaves, form_answer, form_leaves}
use Rattle.saving.specs.Save.{save_answer, save_leaves}
use Rattle.saving.specs.Outcome.{Saves}
use Rattle.converting.specs.Convert.{first_long, within_older, converted_answer, converted_leaves, upgrade_answer, upgrade_leaves, downgrade_answer, downgrade_leaves}
use Rattle.converting.specs.Outcome.{Converts, Upgrades, Downgrades}

-- a plan that was read, from what the reading answers and leaves
pub record Read (form : Form) (mode : Mode) (s : List ℕ) (p : Plan) : Type 0 where
  pub ports : ℕ
  pub flows : ℕ
  pub reads : read_form form mode s ≡ accepted p ports flows
  pub valid : valid_plan p ≡ true

module _ (form : Form) (mode : Mode) (held : Plan) (s : List ℕ) where
  pub read_held : (p : Plan) (n : Fields) → result n ≡ form_answer form mode s → p ≡ form_leaves form mode held s → Read form mode s p
  unfolding form_answer form_leaves
  read_held p n answer leaves = go (read_form form mode s) refl answer leaves
    where
      go : (r : PlanRead) → read_form form mode s ≡ r → result n ≡ reading_answer r → p ≡ reading_leaves held r → Read form mode s p
      go (accepted q ports flows) e a l =
          let reads : read_form form mode s ≡ accepted p ports flows = e ∙ ap (λ (x : Plan). accepted x ports flows) (sym l) in
          record {
            ports = ports;
            flows = flows;
            reads = reads;
            valid = accepted_valid s p ports flows (read_loosely mode s p ports flows (form_accepted form mode s p ports flows reads));
          }
      go (rejected number offset) e a l = let z : ◌≡◌ {A = ℕ} 0 1 = cc in absurd (omega arith)

pub read_refused
    : (form : Form) (mode : Mode) (s : List ℕ) (number offset : ℕ)
    → refusal number (offset ∷ []) ≡ form_answer form mode s
    → read_form form mode s ≡ rejected number offset
unfolding form_answer
read_refused form mode s number offset answer = go (read_form form mode s) answer
  where
    go : (r : PlanRead) → refusal number (offset ∷ []) ≡ reading_answer r → r ≡ rejected number offset
    go (accepted q ports flows) a = let z : ◌≡◌ {A = ℕ} 0 1 = cc in absurd (omega arith)
    go (rejected n o) a = cc

-- a valid plan, saved in this form
module _ (form : Form) (p : Plan) (buffer : List ℕ) (valid : valid_plan p ≡ true) where
  pub saved_converts : {answer : Answer ℕ} {exit : List ℕ} → Saves form p buffer answer exit → Converts form (accepted p 0 0) buffer answer exit
  unfolding save_answer save_leaves
  saved_converts s = (rw valid at s.0, rw valid at s.1)

  pub never_none : refusal no_plan_held (0 ∷ []) ≡ save_answer form p buffer → ⊥
  unfolding save_answer
  never_none e = go (leb (length (form_bytes form p)) (length buffer)) (rw valid at e)
    where
      go
          : (b : Bool)
          → refusal no_plan_held (0 ∷ []) ≡ cond b (result (length (form_bytes form p))) (refusal short_buffer (length (form_bytes form p) ∷ []))
          → ⊥
      go true h = let z : ◌≡◌ {A = ℕ} 0 1 = cc in omega arith
      go false h = omega (arith, ap (λ (a : Answer ℕ). refusal_number a) h)

-- the way to the newer form
module _ (s buffer : List ℕ) where
  pub upgrade_written
      : (p : Plan) {answer : Answer ℕ} {exit : List ℕ}
      → Read older loose s p
      → Converts newer (accepted p 0 0) buffer answer exit
      → Upgrades s buffer answer exit
  unfolding upgrade_answer upgrade_leaves
  upgrade_written p r c = (rw r.reads c.0, rw r.reads c.1)

  pub upgrade_refused : (number offset : ℕ) → read_form older loose s ≡ rejected number offset → Upgrades s buffer (refusal number (offset ∷ [])) buffer
  unfolding upgrade_answer upgrade_leaves
  upgrade_refused number offset e = (rw e, rw e)

-- and back
module _ (s buffer : List ℕ) where
  -- how many fields were read does not matter
  same_answer
      : (p : Plan) (ports flows : ℕ)
      → converted_answer older (within_older s (accepted p 0 0)) buffer ≡ converted_answer older (within_older s (accepted p ports flows)) buffer
  same_answer p ports flows = go (ltb (first_long s) (length s))
    where
      go
          : (b : Bool)
          → converted_answer older (cond b (rejected long_route (first_long s)) (accepted p 0 0)) buffer
          ≡ converted_answer older (cond b (rejected long_route (first_long s)) (accepted p ports flows)) buffer
      go true = refl
      go false = refl

  same_leaves
      : (p : Plan) (ports flows : ℕ)
      → converted_leaves older (within_older s (accepted p 0 0)) buffer ≡ converted_leaves older (within_older s (accepted p ports flows)) buffer
  same_leaves p ports flows = go (ltb (first_long s) (length s))
    where
      go
          : (b : Bool)
          → converted_leaves older (cond b (rejected long_route (first_long s)) (accepted p 0 0)) buffer
          ≡ converted_leaves older (cond b (rejected long_route (first_long s)) (accepted p ports flows)) buffer
      go true = refl
      go false = refl

  pub downgrade_written
      : (p : Plan) {answer : Answer ℕ} {exit : List ℕ}
      → Read newer strict s p
      → Converts older (within_older s (accepted p 0 0)) buffer answer exit
      → Downgrades s buffer answer exit
  unfolding downgrade_answer downgrade_leaves
  downgrade_written p r c =
      (rw r.reads (c.0 ∙ same_answer p r.ports r.flows), rw r.reads (c.1 ∙ same_leaves p r.ports r.flows))

  pub downgrade_refused : (number offset : ℕ) → read_form newer strict s ≡ rejected number offset → Downgrades s buffer (refusal number (offset ∷ [])) buffer
  unfolding downgrade_answer downgrade_leaves
  downgrade_refused number offset e = (rw e, rw e)

  -- a flow over too many ports
  pub within_long
      : (p : Plan) (offset : ℕ)
      → offset ≡ first_long s
      → offset < length s
      → Converts older (within_older s (accepted p 0 0)) buffer (refusal long_route (offset ∷ [])) buffer
  within_long p offset is less =
      let found : ltb (first_long s) (length s) ≡ true = lt-ltb _ _ (rw is at less) in
      (rw (found, is), rw found)

  pub within_all
      : (p : Plan) {answer : Answer ℕ} {exit : List ℕ}
      → length s ≤ first_long s
      → Converts older (accepted p 0 0) buffer answer exit
      → Converts older (within_older s (accepted p 0 0)) buffer answer exit
  within_all p none c =
      let not_found : ltb (first_long s) (length s) ≡ false = le-ltb _ _ none in
      (rw not_found c.0, rw not_found c.1)
