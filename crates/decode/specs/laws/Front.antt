-- The text of a valid plan, written into a buffer of the longest text's length.
use Rattle.std.specs.Prelude.{◌≡◌, refl, true, List, ℕ, ◌≤◌, length, Result, Ok, Err, IsOk}
use Rattle.std.proofs.Common.{sym, ap, ◌∙◌, arith}
use Rattle.answers.specs.Answer.{Answer, result, refusal}
use Rattle.cqf.specs.Form.{Form}
use Rattle.cqf.specs.Plan.{Plan, valid_plan}
use Rattle.plan_text.specs.Print.{text_of}
use Rattle.plan_text.specs.Text.{max_text}
use Rattle.writing.specs.laws.Laid.{over_length}
use Rattle.text_writing.specs.Answer.{text_answer_of}
use Rattle.text_writing.specs.Text.{text_answer, text_leaves}
use Rattle.text_writing.specs.laws.Text.{text_answer_lem, text_lays, text_front, text_size}
use Rattle.text_writing.specs.laws.Length.{text_fits}
use Rattle.writing.specs.declared.SaveRefusal.{SaveRefusal}
use Rattle.decode.specs.{Front}

module _
    (form : Form) (p : Plan) (buffer : List ℕ) {exit : List ℕ}
    (valid : valid_plan p ≡ true)
    (long : max_text ≤ length buffer)
    {answer : Answer ℕ}
    (answers : answer ≡ text_answer form p buffer)
    (leaves : exit ≡ text_leaves form p buffer)
  where
    room : length (text_of form p) ≤ length buffer
    room = omega (arith, text_fits form p valid)

    -- its bytes are in front
    pub in_front : (n : ℕ) → answer ≡ result n → Front (text_of form p) exit n
    in_front n is =
        let said : text_answer form p buffer ≡ result n = sym answers ∙ is in
        let size : length exit ≡ length buffer = ap length (leaves ∙ text_lays form p buffer valid room) ∙ over_length (text_of form p) buffer room in
        record {
          within = omega (arith, text_size form p buffer valid n said, room);
          is = rw leaves (text_front form p buffer valid n said);
        }

    -- and it is not refused
    pub not_refused : (number : ℕ) (values : List ℕ) → answer ≡ refusal number values → ⊥
    not_refused number values is =
        let written = sym (text_answer_lem form p buffer valid room) ∙ sym answers ∙ is in
        let z : ◌≡◌ {A = ℕ} 0 1 = cc in
        absurd (omega arith)

    -- the answer is the length
    pub written : (r : Result ℕ SaveRefusal) → text_answer_of r ≡ answer → IsOk r
    written (Ok n) e = refl
    written (Err SaveRefusal.NoPlan) e = absurd (not_refused _ _ (sym e))
    written (Err (SaveRefusal.ShortBuffer n)) e = absurd (not_refused _ _ (sym e))
