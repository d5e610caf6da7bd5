-- What a call that writes bytes into a lent buffer answers, and what it leaves there.
use Rattle.std.specs.Prelude.{ℕ, List, [], ◌∷◌, cond, leb, length}
use Rattle.answers.specs.Answer.{Answer, result, refusal}
use Rattle.answers.specs.Refusals.{short_buffer}
use Rattle.writing.specs.Laid.{over}

-- the length written, or 13 with the length needed exactly where the buffer is shorter
abbrev pub written_answer : List ℕ → (buffer : List ℕ) → Answer ℕ
written_answer bs buffer =
    cond (leb (length bs) (length buffer)) (result (length bs)) (refusal short_buffer (length bs ∷ []))

-- bytes over the buffer's first ones where the answer is a result; the buffer as it was where it is a refusal
abbrev pub written_leaves : List ℕ → (buffer : List ℕ) → Answer ℕ → List ℕ
written_leaves bs buffer (result n) = over bs buffer
written_leaves bs buffer (refusal number values) = buffer
