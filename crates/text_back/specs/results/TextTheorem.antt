-- From text to bytes and back: the plan that a text says is held by the bytes as which it is encoded, in the form that the text asks for; and
-- the plan's own text says it again.
use Rattle.std.specs.Prelude.{ℕ, ◌≤◌, ◌≡◌, List, length}
use Rattle.cqf.specs.Form.{Form, older, newer}
use Rattle.cqf.specs.Plan.{Plan}
use Rattle.plan_reading.specs.Reading.{accepted, Mode, read_as_of, max_bytes}
use Rattle.plan_reading.specs.Saved.{saved_bytes, form_bytes}
use Rattle.plan_reading.specs.laws.newer.Row.{port_count, flow_count, newer_held as row-held}
use Rattle.plan_reading.specs.laws.saved.SavedRead.{saved_held}
use Rattle.plan_text.specs.Print.{text_of}
use Rattle.plan_text.specs.Text.{reads, read_text}
use Rattle.plan_text.specs.laws.Whole.{text_said}
use Rattle.text_back.specs.laws.ReadWhole.{text_whole}
use Rattle.text_back.specs.results.Theorem.{text_back}

-- The text of a plan that a text says, in the form that this asks for, says the same.
pub text_again
    : (text : List ℕ) (form : Form) (p : Plan)
    → read_text text ≡ reads form p
    → read_text (text_of form p) ≡ reads form p
text_again text form p e =
    let said = text_said text form p e in
    let whole = text_whole text form p e in
    text_back form p said.valid whole.sized said.fits whole.tidy

-- The bytes of a plan that a text says hold this plan, in either reading.
pub older_held
    : (text : List ℕ) (p : Plan)
    → read_text text ≡ reads older p
    → (mode : Mode)
    → read_as_of mode (form_bytes older p) ≡ accepted p (port_count p) (flow_count p)
unfolding form_bytes saved_bytes
older_held text p e mode =
    let said = text_said text older p e in
    let whole = text_whole text older p e in
    saved_held p said.valid whole.sized said.fits whole.tidy mode

-- So they do in the newer form where they are no more than a plan may have: a text can say a larger plan than fits.
pub newer_held
    : (text : List ℕ) (p : Plan)
    → read_text text ≡ reads newer p
    → length (form_bytes newer p) ≤ max_bytes
    → (mode : Mode)
    → read_as_of mode (form_bytes newer p) ≡ accepted p (port_count p) (flow_count p)
newer_held text p e room mode =
    let said = text_said text newer p e in
    let whole = text_whole text newer p e in
    row-held p said.valid whole.sized room whole.tidy mode
