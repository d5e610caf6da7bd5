-- The number and values for each case of the answer of a call that writes a field.
use Rattle.std.specs.Prelude.{ℕ, [], ◌∷◌, Result, Ok, Err}
use Rattle.answers.specs.Answer.{Answer, result, refusal}
use Rattle.answers.specs.Refusals.{short_buffer}
use Rattle.plan.specs.Answer.{fault_number}
use Rattle.field_writing.specs.declared.WriteRefusal.{WriteRefusal}

abbrev pub write_of : Result ℕ WriteRefusal → Answer ℕ
write_of (Ok n) = result n
write_of (Err (WriteRefusal.Refused fault)) = refusal (fault_number fault) (0 ∷ [])
write_of (Err (WriteRefusal.ShortBuffer n)) = refusal short_buffer (n ∷ [])
