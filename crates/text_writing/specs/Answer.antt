-- The number and values for each case of the code's answer.
use Rattle.std.specs.Prelude.{ℕ, [], ◌∷◌, Result, Ok, Err}
use Rattle.answers.specs.Answer.{Answer, result, refusal}
use Rattle.answers.specs.Refusals.{short_buffer, no_plan_held}
use Rattle.writing.specs.declared.SaveRefusal.{SaveRefusal}

abbrev pub text_answer_of : Result ℕ SaveRefusal → Answer ℕ
text_answer_of (Ok n) = result n
text_answer_of (Err SaveRefusal.NoPlan) = refusal no_plan_held (0 ∷ [])
text_answer_of (Err (SaveRefusal.ShortBuffer n)) = refusal short_buffer (n ∷ [])
