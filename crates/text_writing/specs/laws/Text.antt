-- Laws of what the writing of a text answers and leaves, by its refusals, where the length needed is known.
use Rattle.std.specs.Prelude.{ℕ, ◌≤◌, ◌<◌, ◌≡◌, true, false, List, [], ◌∷◌, take}
use Rattle.std.proofs.Math.Path.{sym}
use Rattle.std.proofs.Common.{◌∙◌, ⊎_elim, arith}
use borrow.Author.Tests.{le-leb, lt-leb}
use Rattle.std.proofs.Math.ListN.{length}
use Rattle.answers.specs.Answer.{result, refusal}
use Rattle.answers.specs.Refusals.{short_buffer, no_plan_held}
use Rattle.cqf.specs.Form.{Form}
use Rattle.cqf.specs.Plan.{Plan, valid_plan}
use Rattle.cqf.proofs.laws.Valid.{Empty, Held, slot_cases}
use Rattle.plan_text.specs.Print.{text_of}
use Rattle.writing.specs.Laid.{over}
use Rattle.writing.specs.laws.Laid.{laid-over, laid_short}
use Rattle.writing.specs.laws.Answer.{written_size, written_front}
use Rattle.text_writing.specs.Bytes.{HopsFit}
use Rattle.text_writing.specs.Text.{text_answer, text_leaves, WritesText}

-- the routes of a valid plan
pub valid_hops : (p : Plan) → valid_plan p ≡ true → HopsFit p.hops
valid_hops p valid f l =
    ⊎_elim (λ (e : Empty p f). omega (arith, e.hops)) (λ (h : Held p f). h.hops_most) (slot_cases p valid f l)

module _ (form : Form) (p : Plan) (buffer : List ℕ) where
  pub text_none : valid_plan p ≡ false → WritesText form p buffer (refusal no_plan_held (0 ∷ [])) buffer
  unfolding text_answer text_leaves
  text_none e = (rw e, rw e)

  module _ (valid : valid_plan p ≡ true) (n : ℕ) (is : n ≡ length (text_of form p)) where
    pub text_short : length buffer < n → WritesText form p buffer (refusal short_buffer (n ∷ [])) buffer
    unfolding text_answer text_leaves
    text_short l =
        let less : length buffer < length (text_of form p) = rw is at l in
        (rw (valid, lt-leb (length (text_of form p)) (length buffer) less, is), rw valid (sym (laid_short (text_of form p) buffer less)))

    pub text_written : {exit : List ℕ} → n ≤ length buffer → exit ≡ over (text_of form p) buffer → WritesText form p buffer (result n) exit
    unfolding text_answer text_leaves
    text_written l e =
        let room : length (text_of form p) ≤ length buffer = rw is at l in
        (rw (valid, le-leb (length (text_of form p)) (length buffer) room, is), rw valid (e ∙ sym (laid-over (text_of form p) buffer room)))

-- where the answer is a length, it is that of the text, which stands in front
module _ (form : Form) (p : Plan) (buffer : List ℕ) (valid : valid_plan p ≡ true) where
  pub text_answer_lem : length (text_of form p) ≤ length buffer → text_answer form p buffer ≡ result (length (text_of form p))
  unfolding text_answer
  text_answer_lem l = rw (valid, le-leb (length (text_of form p)) (length buffer) l)

  pub text_lays : length (text_of form p) ≤ length buffer → text_leaves form p buffer ≡ over (text_of form p) buffer
  unfolding text_leaves
  text_lays l = rw valid (laid-over (text_of form p) buffer l)

  pub text_size : (n : ℕ) → text_answer form p buffer ≡ result n → n ≡ length (text_of form p)
  unfolding text_answer
  text_size n e = written_size (text_of form p) buffer n (rw valid at e)

  pub text_front : (n : ℕ) → text_answer form p buffer ≡ result n → take n (text_leaves form p buffer) ≡ text_of form p
  unfolding text_answer text_leaves
  text_front n e = rw valid (written_front (text_of form p) buffer n (rw valid at e))
