-- A valid plan that is saved into a buffer of the longest plan's length.
use Rattle.std.specs.Prelude.{◌≡◌, refl, true, List, ℕ, ◌≤◌, length, Result, Ok, Err, IsOk}
use Rattle.std.proofs.Common.{sym, ap, ◌∙◌, arith}
use Rattle.cqf.specs.Form.{Form}
use Rattle.cqf.specs.Plan.{Plan, valid_plan}
use Rattle.plan_reading.specs.Reading.{max_bytes}
use Rattle.plan_reading.specs.Saved.{form_bytes}
use Rattle.writing.specs.laws.Laid.{over_length}
use Rattle.answers.specs.Answer.{Answer, result, refusal}
use Rattle.saving.specs.Answer.{save_of}
use Rattle.saving.specs.Save.{save_answer, save_leaves}
use Rattle.saving.specs.laws.Saved.{save_written, save_lays, save_front, save_size}
use Rattle.writing.specs.declared.SaveRefusal.{SaveRefusal}
use Rattle.normalize.specs.{Front}

module _
    (form : Form) (p : Plan) (buffer : List ℕ) {exit : List ℕ}
    (valid : valid_plan p ≡ true)
    (short : length (form_bytes form p) ≤ max_bytes)
    (long : max_bytes ≤ length buffer)
    {answer : Answer ℕ}
    (answers : answer ≡ save_answer form p buffer)
    (leaves : exit ≡ save_leaves form p buffer)
  where
    room : length (form_bytes form p) ≤ length buffer
    room = omega arith

    -- its bytes are in front
    pub in_front : (n : ℕ) → answer ≡ result n → Front (form_bytes form p) exit n
    in_front n is =
        let said : save_answer form p buffer ≡ result n = sym answers ∙ is in
        let size : length exit ≡ length buffer = ap length (leaves ∙ save_lays form p buffer valid room) ∙ over_length (form_bytes form p) buffer room in
        record {
          within = omega (arith, save_size form p buffer valid n said, room);
          is = rw leaves (save_front form p buffer valid n said);
        }

    -- and it is not refused
    pub not_refused : (number : ℕ) (values : List ℕ) → answer ≡ refusal number values → ⊥
    not_refused number values is =
        let written = sym (save_written form p buffer valid room) ∙ sym answers ∙ is in
        let z : ◌≡◌ {A = ℕ} 0 1 = cc in
        absurd (omega arith)

    -- the answer is the length
    pub written : (r : Result ℕ SaveRefusal) → save_of r ≡ answer → IsOk r
    written (Ok n) e = refl
    written (Err SaveRefusal.NoPlan) e = absurd (not_refused _ _ (sym e))
    written (Err (SaveRefusal.ShortBuffer n)) e = absurd (not_refused _ _ (sym e))
