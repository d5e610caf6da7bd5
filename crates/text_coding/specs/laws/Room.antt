-- What the encoding of a text writes lies within the buffer that it leaves.
use Rattle.std.specs.Prelude.{Result, Ok, Err, ℕ, ◌≤◌, ◌≡◌, List, [], length}
use Rattle.std.proofs.Common.{sym, ap, subst, arith}
use Rattle.answers.specs.Answer.{Answer, result, refusal}
use Rattle.plan_reading.specs.Saved.{form_bytes}
use Rattle.writing.specs.laws.Answer.{written_fits}
use Rattle.writing.specs.laws.Laid.{laid-over, over_length}
use Rattle.plan_text.specs.Text.{Reading, reads, rejected, read_text}
use Rattle.text_coding.specs.Encode.{Encoded, answered, refused, encoded_answer, encoded_leaves, encode_answer, encode_leaves, Encodes}
use Rattle.text_coding.specs.Answer.{encoded_of, Inside}
use Rattle.text_coding.specs.declared.EncodeRefusal.{EncodeRefusal}

-- the answer of one that is not refused for its text
abbrev answer_in : Encoded → Answer ℕ
answer_in (answered a) = a
answer_in (refused line fault item value) = refusal 0 []

room_in : (r : Reading) (buffer : List ℕ) (n : ℕ) → answered (result n) ≡ encoded_answer r buffer → n ≤ length (encoded_leaves r buffer)
room_in (reads form p) buffer n e =
    let bs = form_bytes form p in
    let f = written_fits bs buffer n (sym (ap answer_in e)) in
    let room : length bs ≤ length buffer = omega (arith, f.size, f.room) in
    rw (laid-over bs buffer room) (omega (arith, f.room, over_length bs buffer room))
room_in (rejected line fault item value) buffer n e =
    let h : result n ≡ refusal 0 [] = ap answer_in e in
    let z : ◌≡◌ {A = ℕ} 0 1 = cc in
    absurd (omega arith)

encode_room : (text buffer : List ℕ) (n : ℕ) → answered (result n) ≡ encode_answer text buffer → n ≤ length (encode_leaves text buffer)
unfolding encode_answer encode_leaves
encode_room text buffer n e = room_in (read_text text) buffer n e

pub encode_inside : (text buffer : List ℕ) (x : Result ℕ EncodeRefusal) (exit : List ℕ) → Encodes text buffer (encoded_of x) exit → Inside (length exit) x
encode_inside text buffer (Ok n) exit e = subst (λ (l : List ℕ). n ≤ length l) (sym e.1) (encode_room text buffer n e.0)
encode_inside text buffer (Err r) exit e = tt
