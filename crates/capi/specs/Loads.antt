-- A load into lent columns, with its answer as numbers.
use Rattle.std.specs.Prelude.{◌≡◌, List, ℕ}
use Rattle.plan_reading.specs.Reading.{Mode}
use Rattle.loading.specs.Lent.{Lent, lent_plan}
use Rattle.loading.specs.Outcome.{load_answer, load_leaves, load_form}
use Rattle.capi.specs.Numbers.{load_numbers}
use Rattle.capi.specs.declared.AnswerNumbers.{AnswerNumbers}

-- each number that it leaves, the plan that is then held, and its answer
pub record LoadsNumbers (mode : Mode) (entry : Lent) (bytes : List ℕ) (exit : Lent) (answer : AnswerNumbers) : Type 0 where
  pub leaves : exit.tables ≡ load_leaves mode entry.tables bytes
  pub formed : exit.form ≡ load_form mode entry.form bytes
  pub holds : lent_plan exit ≡ load_leaves mode (lent_plan entry) bytes
  pub answers : answer ≡ load_numbers (load_answer mode bytes)
