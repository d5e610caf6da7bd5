-- Laws of what saving answers and leaves.
use Rattle.std.specs.Prelude.{ℕ, ◌≤◌, ◌<◌, ◌≡◌, true, false, List, [], ◌∷◌, length, take, drop}
use borrow.Author.Tests.{le-leb, lt-leb}
use Rattle.cqf.specs.Form.{Form}
use Rattle.cqf.specs.Plan.{Plan, valid_plan}
use Rattle.plan_reading.specs.Saved.{form_bytes}
use Rattle.writing.specs.Laid.{over}
use Rattle.writing.specs.laws.Laid.{laid-over, laid_short}
use Rattle.writing.specs.laws.Answer.{written_size, written_front, written_rest}
use Rattle.answers.specs.Answer.{result, refusal}
use Rattle.answers.specs.Refusals.{short_buffer, no_plan_held}
use Rattle.saving.specs.Save.{save_answer, save_leaves}

module _ (form : Form) (p : Plan) (buffer : List ℕ) where
  pub save_none : valid_plan p ≡ false → save_answer form p buffer ≡ refusal no_plan_held (0 ∷ [])
  unfolding save_answer
  save_none e = rw e

  pub save_keeps : valid_plan p ≡ false → save_leaves form p buffer ≡ buffer
  unfolding save_leaves
  save_keeps e = rw e

  module _ (valid : valid_plan p ≡ true) where
    pub save_short : length buffer < length (form_bytes form p) → save_answer form p buffer ≡ refusal short_buffer (length (form_bytes form p) ∷ [])
    unfolding save_answer
    save_short l = rw (valid, lt-leb (length (form_bytes form p)) (length buffer) l)

    pub save_short_keeps : length buffer < length (form_bytes form p) → save_leaves form p buffer ≡ buffer
    unfolding save_leaves
    save_short_keeps l = rw valid (laid_short (form_bytes form p) buffer l)

    pub save_written : length (form_bytes form p) ≤ length buffer → save_answer form p buffer ≡ result (length (form_bytes form p))
    unfolding save_answer
    save_written l = rw (valid, le-leb (length (form_bytes form p)) (length buffer) l)

    pub save_lays : length (form_bytes form p) ≤ length buffer → save_leaves form p buffer ≡ over (form_bytes form p) buffer
    unfolding save_leaves
    save_lays l = rw valid (laid-over (form_bytes form p) buffer l)

    -- where the answer is a length, it is that of the saved plan; the first bytes are the saved plan, and the others as they were
    pub save_size : (n : ℕ) → save_answer form p buffer ≡ result n → n ≡ length (form_bytes form p)
    unfolding save_answer
    save_size n e = written_size (form_bytes form p) buffer n (rw valid at e)

    pub save_front : (n : ℕ) → save_answer form p buffer ≡ result n → take n (save_leaves form p buffer) ≡ form_bytes form p
    unfolding save_answer save_leaves
    save_front n e = rw valid (written_front (form_bytes form p) buffer n (rw valid at e))

    pub save_rest : (n : ℕ) → save_answer form p buffer ≡ result n → drop n (save_leaves form p buffer) ≡ drop n buffer
    unfolding save_answer save_leaves
    save_rest n e = rw valid (written_rest (form_bytes form p) buffer n (rw valid at e))
