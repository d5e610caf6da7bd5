-- What a conversion means.
use Rattle.std.specs.Prelude.{ℕ, ◌≤◌, ◌≡◌, List, take, drop}
use Rattle.answers.specs.Answer.{Answer}
use Rattle.cqf.specs.Form.{Form, older, newer}
use Rattle.plan.specs.Layout.{form_by}
use Rattle.plan_reading.specs.Reading.{PlanRead, Mode, read_as_of}
use Rattle.writing.specs.Laid.{laid}
use Rattle.writing.specs.Answer.{written_answer}

-- the most bytes that a plan has when it is converted to this form
abbrev pub most_converted : Form → ℕ
most_converted older = 15002
most_converted newer = 13399

-- the first n bytes are a plan of this form, which either reading accepts, and which is the plan that was read, with as many port and flow fields;
-- those behind them are as they were
pub record Converted (form : Form) (read : PlanRead) (buffer exit : List ℕ) (n : ℕ) : Type 0 where
  pub tells : form_by (take n exit) ≡ form
  pub reads : (mode : Mode) → read_as_of mode (take n exit) ≡ read
  pub rest : drop n exit ≡ drop n buffer
  pub most : n ≤ most_converted form

-- a conversion writes these bytes, into any buffer that has room for them
pub record Gives (answer : List ℕ → Answer ℕ) (leaves : List ℕ → List ℕ) (bytes : List ℕ) : Type 0 where
  pub answers : (buffer : List ℕ) → answer buffer ≡ written_answer bytes buffer
  pub writes : (buffer : List ℕ) → leaves buffer ≡ laid bytes buffer
