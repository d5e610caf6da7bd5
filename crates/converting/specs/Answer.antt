-- Document 02's number and values for each case of the converters' answer.
use Rattle.std.specs.Prelude.{ℕ, [], ◌∷◌, Result, Ok, Err}
use Rattle.answers.specs.Answer.{Answer, result, refusal}
use Rattle.answers.specs.Refusals.{short_buffer, long_route}
use Rattle.plan.specs.Answer.{fault_number}
use Rattle.converting.specs.declared.ConvertRefusal.{ConvertRefusal}

abbrev pub convert_of : Result ℕ ConvertRefusal → Answer ℕ
convert_of (Ok n) = result n
convert_of (Err (ConvertRefusal.Refused r)) = refusal (fault_number r.fault) (r.offset ∷ [])
convert_of (Err (ConvertRefusal.LongRoute offset)) = refusal long_route (offset ∷ [])
convert_of (Err (ConvertRefusal.ShortBuffer n)) = refusal short_buffer (n ∷ [])
