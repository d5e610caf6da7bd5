-- From bytes to text and back: a plan that was read from bytes is said by its text, and the text is encoded as the bytes as which the plan
-- is saved: in the newer form these are the very bytes, and in the older one too where they are in strict order and no field says what
-- its absence says.
use Rattle.std.specs.Prelude.{ℕ, ◌≡◌, refl, List}
use Rattle.std.proofs.Common.{ap, ◌∙◌}
use Rattle.cqf.specs.Form.{Form, older, newer}
use Rattle.cqf.specs.Plan.{Plan}
use Rattle.plan.specs.Bytes.{Octets}
use Rattle.plan.specs.Layout.{form_by}
use Rattle.plan_reading.specs.Reading.{accepted, Mode, strict, read_as_of}
use Rattle.plan_reading.specs.Saved.{saved_bytes, form_bytes, NoneSaysNothing}
use Rattle.plan_reading.specs.laws.reading.Fits.{read_fits}
use Rattle.plan_reading.specs.laws.reading.Walked.{accepted_sized, accepted_tidy}
use Rattle.plan_reading.specs.laws.saved.SavedBack.{saved_back}
use Rattle.plan_reading.specs.laws.validity.Valid.{accepted_valid}
use Rattle.plan_reading.specs.results.FormTheorem.{newer_saved}
use Rattle.plan_reading.specs.results.StrictTheorem.{read_loosely}
use Rattle.plan_text.specs.Print.{text_of}
use Rattle.plan_text.specs.Text.{reads, read_text}
use Rattle.text_back.specs.Encodes.{Encodes}
use Rattle.text_back.specs.results.Theorem.{text_back}

module _ (mode : Mode) (s : List ℕ) (p : Plan) (ports flows : ℕ) (e : read_as_of mode s ≡ accepted p ports flows) where
  -- The text of a plan that was read, in the form in which it was read, says this plan in this form.
  pub bytes_text : read_text (text_of (form_by s) p) ≡ reads (form_by s) p
  bytes_text =
      text_back (form_by s) p (accepted_valid s p ports flows (read_loosely mode s p ports flows e)) (accepted_sized mode s p ports flows e)
      (read_fits mode s p ports flows e)
      (accepted_tidy mode s p ports flows e)

  -- It is encoded as the bytes as which the plan is saved.
  pub bytes_encoded : Encodes (text_of (form_by s) p) (form_bytes (form_by s) p)
  bytes_encoded = record { form = form_by s; plan = p; says = bytes_text; saved = refl }

  -- In the newer form these are the bytes that were read.
  pub newer_restored : form_by s ≡ newer → Octets s → Encodes (text_of (form_by s) p) s
  newer_restored told octets =
      record {
        form = form_by s;
        plan = p;
        says = bytes_text;
        saved = ap (λ (f : Form). form_bytes f p) told ∙ newer_saved mode s p ports flows e told octets;
      }

-- And so they are in the older one where they are in strict order and no field says what its absence says.
pub older_restored
    : (s : List ℕ) (p : Plan) (ports flows : ℕ)
    → read_as_of strict s ≡ accepted p ports flows
    → form_by s ≡ older
    → Octets s
    → NoneSaysNothing s
    → Encodes (text_of (form_by s) p) s
unfolding form_bytes saved_bytes
older_restored s p ports flows e told octets none =
    record {
      form = form_by s;
      plan = p;
      says = bytes_text strict s p ports flows e;
      saved = ap (λ (f : Form). form_bytes f p) told ∙ saved_back s p ports flows octets e told none;
    }
