-- Plan K's text, encoded.
use Rattle.std.specs.Prelude.{ℕ, ◌≡◌, refl, List, [], ◌∷◌}
use Rattle.std.proofs.Common.{ap, ◌∙◌}
use Rattle.cqf.specs.Bounded.{sublist}
use Rattle.cqf.specs.Form.{older}
use Rattle.cqf.specs.Plan.{no_plan}
use Rattle.cqf.proofs.worked.K.{plan_k}
use Rattle.plan_reading.specs.FieldBytes.{bytes2s, value_of, bytes_of, row_bytes}
use Rattle.plan_reading.specs.Saved.{collect, saved_parts, form_bytes}
use Rattle.writing.specs.Laid.{laid}
use Rattle.writing.specs.Answer.{written_answer}
use Rattle.plan_text.specs.Text.{Reading}
use Rattle.plan_text.specs.worked.K.{text_k, text_k_lem}
use Rattle.text_coding.specs.Encode.{answered, encoded_answer, encoded_leaves, encode_answer, encode_leaves}

-- document 01's bytes of K
abbrev bytes_k : List ℕ
bytes_k =
    0x01 ∷ 0x00 ∷ 0x08 ∷ 0x00 ∷ 0x00 ∷ 0x03 ∷ 0xe8 ∷ 0x00 ∷ 0x0f ∷ 0x42 ∷ 0x40
    ∷ 0x02 ∷ 0x00 ∷ 0x08 ∷ 0x00 ∷ 0x01 ∷ 0x00 ∷ 0x00 ∷ 0x00 ∷ 0x64 ∷ 0x00 ∷ 0x00
    ∷ 0x03 ∷ 0x00 ∷ 0x0c ∷ 0x00 ∷ 0x01 ∷ 0x00 ∷ 0x01 ∷ 0x86 ∷ 0xa0 ∷ 0x00 ∷ 0x01 ∷ 0x00 ∷ 0xe6 ∷ 0x00 ∷ 0x01
    ∷ 0x03 ∷ 0x00 ∷ 0x0c ∷ 0x00 ∷ 0x02 ∷ 0x00 ∷ 0x01 ∷ 0xad ∷ 0xb0 ∷ 0x00 ∷ 0x01 ∷ 0x02 ∷ 0x5d ∷ 0x00 ∷ 0x01
    ∷ []

saved_k : form_bytes older plan_k ≡ bytes_k
unfolding plan_k no_plan form_bytes saved_parts collect row_bytes bytes_of value_of bytes2s sublist
saved_k = refl

-- into any buffer
pub encode_k : (buffer : List ℕ) → (encode_answer text_k buffer ≡ answered (written_answer bytes_k buffer)) × (encode_leaves text_k buffer ≡ laid bytes_k buffer)
unfolding encode_answer encode_leaves
encode_k buffer = (
  ap (λ (r : Reading). encoded_answer r buffer) text_k_lem ∙ ap (λ (bs : List ℕ). answered (written_answer bs buffer)) saved_k,
  ap (λ (r : Reading). encoded_leaves r buffer) text_k_lem ∙ ap (λ (bs : List ℕ). laid bs buffer) saved_k,
)
