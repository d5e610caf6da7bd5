-- Document 02's number and values for each case of the code's answer.
use Rattle.std.specs.Prelude.{ℕ, [], ◌∷◌, Result, Ok, Err}
use Rattle.answers.specs.Answer.{Answer, result, refusal}
use Rattle.answers.specs.Refusals.{bad_duration, short_buffer, bad_queue, no_plan_held, not_admissible}
use Rattle.questions.specs.declared.check.CheckRefusal.{CheckRefusal}
use Rattle.gate_writing.specs.declared.GatesRefusal.{GatesRefusal}

abbrev pub gates_of : Result ℕ GatesRefusal → Answer ℕ
gates_of (Ok n) = result n
gates_of (Err GatesRefusal.NoPlan) = refusal no_plan_held (0 ∷ [])
gates_of (Err GatesRefusal.BadDuration) = refusal bad_duration (0 ∷ [])
gates_of (Err (GatesRefusal.Failing port count)) = refusal not_admissible (port ∷ count ∷ [])
gates_of (Err GatesRefusal.BadQueue) = refusal bad_queue (0 ∷ [])
gates_of (Err (GatesRefusal.ShortBuffer n)) = refusal short_buffer (n ∷ [])

-- what the plain question refuses
abbrev pub refusal_of : CheckRefusal → GatesRefusal
refusal_of CheckRefusal.NoPlan = GatesRefusal.NoPlan
refusal_of CheckRefusal.BadDuration = GatesRefusal.BadDuration
refusal_of (CheckRefusal.Failing port count) = GatesRefusal.Failing port count
