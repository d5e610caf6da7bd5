-- What the encoding of a text answers and leaves in the lent buffer, for any text and any buffer.
use Rattle.std.specs.Prelude.{ℕ, ◌≡◌, List}
use Rattle.answers.specs.Answer.{Answer}
use Rattle.plan_reading.specs.Saved.{form_bytes}
use Rattle.writing.specs.Laid.{laid}
use Rattle.writing.specs.Answer.{written_answer}
use Rattle.plan_text.specs.Text.{Reading, reads, rejected, read_text}
use Rattle.plan_text.specs.declared.grammar.Fault.{Fault}
use Rattle.plan_text.specs.declared.grammar.Item.{Item}

-- the length written, or 13 with the length needed; or the line at which the text is refused, why, and what is named with it
pub data Encoded : Type 0 where
  answered : Answer ℕ → Encoded
  refused : (line : ℕ) (fault : Fault) (item : Item) (value : ℕ) → Encoded

-- what was read, as the bytes as which it is saved in its form: 13 exactly where the buffer is shorter
abbrev pub encoded_answer : Reading → (buffer : List ℕ) → Encoded
encoded_answer (reads form p) buffer = answered (written_answer (form_bytes form p) buffer)
encoded_answer (rejected line fault item value) buffer = refused line fault item value

-- its bytes over the buffer's first ones; the buffer as it was where the encoding is refused
abbrev pub encoded_leaves : Reading → (buffer : List ℕ) → List ℕ
encoded_leaves (reads form p) buffer = laid (form_bytes form p) buffer
encoded_leaves (rejected line fault item value) buffer = buffer

-- of a text
unfoldable pub encode_answer : (text buffer : List ℕ) → Encoded
unfolding read_text form_bytes
encode_answer text buffer = encoded_answer (read_text text) buffer

unfoldable pub encode_leaves : (text buffer : List ℕ) → List ℕ
unfolding read_text form_bytes laid
encode_leaves text buffer = encoded_leaves (read_text text) buffer

-- an answer, and the buffer as it is left
abbrev pub EncodesReading : Reading → (buffer : List ℕ) → Encoded → (exit : List ℕ) → Type 0
EncodesReading reading buffer answer exit = (answer ≡ encoded_answer reading buffer) × (exit ≡ encoded_leaves reading buffer)

abbrev pub Encodes : (text buffer : List ℕ) → Encoded → (exit : List ℕ) → Type 0
Encodes text buffer answer exit = (answer ≡ encode_answer text buffer) × (exit ≡ encode_leaves text buffer)
