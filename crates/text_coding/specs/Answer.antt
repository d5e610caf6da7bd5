-- The number and values for each case of the encoding's answer.
use Rattle.std.specs.Prelude.{ℕ, ◌≤◌, [], ◌∷◌, Result, Ok, Err}
use Rattle.answers.specs.Answer.{result, refusal}
use Rattle.answers.specs.Refusals.{short_buffer}
use Rattle.text_coding.specs.Encode.{Encoded, answered, refused}
use Rattle.text_coding.specs.declared.EncodeRefusal.{EncodeRefusal}

abbrev pub encoded_of : Result ℕ EncodeRefusal → Encoded
encoded_of (Ok n) = answered (result n)
encoded_of (Err (EncodeRefusal.Short n)) = answered (refusal short_buffer (n ∷ []))
encoded_of (Err (EncodeRefusal.Refused r)) = refused r.line r.fault r.item r.value

-- what was written lies within so many bytes
abbrev pub Inside : ℕ → Result ℕ EncodeRefusal → Type 0
Inside room (Ok n) = n ≤ room
Inside room (Err e) = Unit {0}
