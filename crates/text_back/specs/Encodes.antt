-- What a text is encoded as: the bytes as which the plan that it says is saved, in the form that it asks for.
use Rattle.std.specs.Prelude.{ℕ, ◌≡◌, List}
use Rattle.cqf.specs.Form.{Form}
use Rattle.cqf.specs.Plan.{Plan}
use Rattle.plan_reading.specs.Saved.{form_bytes}
use Rattle.plan_text.specs.Text.{reads, read_text}

pub record Encodes (text bytes : List ℕ) : Type 0 where
  pub form : Form
  pub plan : Plan
  pub says : read_text text ≡ reads form plan
  pub saved : form_bytes form plan ≡ bytes
