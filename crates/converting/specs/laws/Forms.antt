-- Laws of a plan that was read in one form and is written in the other.
use Rattle.std.specs.Prelude.{ℕ, ◌≤◌, ◌<◌, ◌≡◌, refl, List, Bool, true, false, cond, ltb, length, take}
use Rattle.std.proofs.Common.{sym, ap, ◌∙◌, arith, le-ltb, ltb-false}
use Rattle.answers.specs.Answer.{result}
use Rattle.answers.specs.Refusals.{long_route}
use Rattle.cqf.specs.Form.{Form, older, newer, most_hops_in}
use Rattle.cqf.specs.Limits.{flow_slots}
use Rattle.cqf.specs.Plan.{Plan, hops_of}
use Rattle.plan.specs.Layout.{form_by}
use Rattle.plan_reading.specs.FieldBytes.{bytes_of, row_bytes}
use Rattle.plan_reading.specs.Reading.{PlanRead, accepted, rejected, Mode, loose, strict, read_form, read_as_of}
use Rattle.plan_reading.specs.Saved.{saved_parts, saved_bytes, newer_fields, form_bytes}
use Rattle.plan_reading.specs.laws.newer.Length.{newer_most_lem}
use Rattle.plan_reading.specs.laws.newer.Row.{newer_held}
use Rattle.plan_reading.specs.laws.reading.Fits.{form_accepted, accepted_fits, few_fits}
use Rattle.plan_reading.specs.laws.reading.PlanLength.{read_form_lem}
use Rattle.plan_reading.specs.laws.reading.Walked.{accepted_sized, accepted_tidy}
use Rattle.plan_reading.specs.laws.saved.Counts.{ports_counted, flows_counted}
use Rattle.plan_reading.specs.laws.saved.SavedLength.{fits_hops, saved_most_lem}
use Rattle.plan_reading.specs.laws.saved.SavedRead.{saved_again}
use Rattle.plan_reading.specs.laws.validity.Valid.{accepted_valid}
use Rattle.plan_reading.specs.results.StrictTheorem.{read_loosely}
use Rattle.writing.specs.laws.Answer.{written_size, written_front, written_rest}
use Rattle.converting.specs.Convert.{converted_answer, converted_leaves, first_long, within_older, upgrade_answer, upgrade_leaves, downgrade_answer, downgrade_leaves}
use Rattle.converting.specs.Meaning.{most_converted, Converted, Gives}
use Rattle.converting.specs.laws.Long.{none_fits}

-- bytes that tell a form are read by it
pub by_form : (form : Form) (mode : Mode) (s : List ℕ) {r : PlanRead} → form_by s ≡ form → read_as_of mode s ≡ r → read_form form mode s ≡ r
by_form form mode s told e = sym (ap (λ (f : Form). read_form f mode s) told) ∙ sym (read_form_lem mode s) ∙ e

-- what a plan is saved as tells the form
pub bytes_tell : (form : Form) (p : Plan) → form_by (form_bytes form p) ≡ form
unfolding form_bytes saved_parts newer_fields row_bytes bytes_of form_by
bytes_tell older p = refl
bytes_tell newer p = refl

-- bytes as which a plan is saved in this form, and which hold it
pub record Holds (form : Form) (p : Plan) (ports flows : ℕ) : Type 0 where
  pub reads : (mode : Mode) → read_as_of mode (form_bytes form p) ≡ accepted p ports flows
  pub most : length (form_bytes form p) ≤ most_converted form

-- a plan of the older form, written in the newer one
module _ (mode : Mode) (s : List ℕ) (p : Plan) (ports flows : ℕ) (e : read_form older mode s ≡ accepted p ports flows) where
  pub older_few : (f : ℕ) → f < flow_slots → hops_of p f ≤ most_hops_in older
  older_few = fits_hops older p.hops (accepted_fits older mode s p ports flows e)

  pub newer_holds : Holds newer p ports flows
  newer_holds =
      let reads = form_accepted older mode s p ports flows e in
      let valid = accepted_valid s p ports flows (read_loosely mode s p ports flows reads) in
      let most : length (form_bytes newer p) ≤ most_converted newer = newer_most_lem p older_few in
      record {
        reads =
            λ other.
            newer_held p valid (accepted_sized mode s p ports flows reads) (omega (arith, most)) (accepted_tidy mode s p ports flows reads) other
            ∙ (λ i. accepted p (sym (ports_counted mode s p ports flows reads) i) (sym (flows_counted mode s p ports flows reads) i));
        most = most;
      }

-- a plan of the newer form with no flow over too many ports, written in the older one
module _
    (mode : Mode) (s : List ℕ) (p : Plan) (ports flows : ℕ)
    (e : read_form newer mode s ≡ accepted p ports flows) (none : length s ≤ first_long s) where
  pub older_holds : Holds older p ports flows
  unfolding form_bytes saved_bytes
  older_holds =
      let few = none_fits mode s p ports flows e none in
      record {
        reads = λ other. saved_again mode other s p ports flows (form_accepted newer mode s p ports flows e) (few_fits older p.hops few);
        most = saved_most_lem p few;
      }

-- what was read is refused neither by the reading nor for its routes
pub within_accepted
    : (s : List ℕ) (r : PlanRead) (p : Plan) (ports flows : ℕ)
    → within_older s r ≡ accepted p ports flows
    → (r ≡ accepted p ports flows) × (length s ≤ first_long s)
within_accepted s (accepted q m k) p ports flows e = go (ltb (first_long s) (length s)) refl e
  where
    go
        : (b : Bool)
        → ltb (first_long s) (length s) ≡ b
        → cond b (rejected long_route (first_long s)) (accepted q m k) ≡ accepted p ports flows
        → (accepted q m k ≡ accepted p ports flows) × (length s ≤ first_long s)
    go true h e = let z : ◌≡◌ {A = ℕ} 0 1 = cc in absurd (omega arith)
    go false h e = (e, ltb-false _ _ h)
within_accepted s (rejected number offset) p ports flows e = let z : ◌≡◌ {A = ℕ} 0 1 = cc in absurd (omega arith)

pub within_none
    : (s : List ℕ) (p : Plan) (ports flows : ℕ)
    → length s ≤ first_long s
    → within_older s (accepted p ports flows) ≡ accepted p ports flows
within_none s p ports flows none = rw (le-ltb (first_long s) (length s) none)

-- a conversion that answers with a length
pub converted_means
    : (form : Form) (r : PlanRead) (buffer : List ℕ) (n : ℕ)
    → ((p : Plan) (ports flows : ℕ) → r ≡ accepted p ports flows → Holds form p ports flows)
    → converted_answer form r buffer ≡ result n
    → Converted form r buffer (converted_leaves form r buffer) n
converted_means form (accepted p ports flows) buffer n holds e =
    let h = holds p ports flows refl in
    let bs = form_bytes form p in
    let front = written_front bs buffer n e in
    record {
      tells = rw front (bytes_tell form p);
      reads = λ mode. rw front (h.reads mode);
      rest = written_rest bs buffer n e;
      most = omega (arith, written_size bs buffer n e, h.most);
    }
converted_means form (rejected number offset) buffer n holds e = let z : ◌≡◌ {A = ℕ} 0 1 = cc in absurd (omega arith)

-- the plan whose bytes it wrote
pub converted_front
    : (form : Form) (r : PlanRead) (buffer : List ℕ) (n : ℕ) (p : Plan) (ports flows : ℕ)
    → r ≡ accepted p ports flows
    → converted_answer form r buffer ≡ result n
    → take n (converted_leaves form r buffer) ≡ form_bytes form p
converted_front form r buffer n p ports flows is e = rw is (written_front (form_bytes form p) buffer n (rw is at e))

-- what the converters write of a plan
pub upgrade_gives
    : (s : List ℕ) (p : Plan) (ports flows : ℕ)
    → read_form older loose s ≡ accepted p ports flows
    → Gives (upgrade_answer s) (upgrade_leaves s) (form_bytes newer p)
unfolding upgrade_answer upgrade_leaves
upgrade_gives s p ports flows e = record { answers = λ buffer. rw e; writes = λ buffer. rw e }

pub downgrade_gives
    : (s : List ℕ) (p : Plan) (ports flows : ℕ)
    → read_form newer strict s ≡ accepted p ports flows
    → length s ≤ first_long s
    → Gives (downgrade_answer s) (downgrade_leaves s) (form_bytes older p)
unfolding downgrade_answer downgrade_leaves
downgrade_gives s p ports flows e none =
    let within = within_none s p ports flows none in
    record { answers = λ buffer. rw (e, within); writes = λ buffer. rw (e, within) }
