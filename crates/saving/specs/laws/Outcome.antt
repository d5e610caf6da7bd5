-- Laws of what saving answers and leaves, by its refusals, where the length needed is known.
use Rattle.std.specs.Prelude.{ℕ, ◌≤◌, ◌<◌, ◌≡◌, List, [], ◌∷◌, true, false, length}
use Rattle.std.proofs.Common.{sym, ◌∙◌}
use Rattle.cqf.specs.Form.{Form}
use Rattle.cqf.specs.Plan.{Plan, valid_plan}
use Rattle.plan_reading.specs.Saved.{form_bytes}
use Rattle.writing.specs.Laid.{over}
use Rattle.answers.specs.Answer.{result, refusal}
use Rattle.answers.specs.Refusals.{short_buffer, no_plan_held}
use Rattle.saving.specs.laws.Saved.{save_none, save_keeps, save_short, save_short_keeps, save_written, save_lays}
use Rattle.saving.specs.Outcome.{Saves}

module _ (form : Form) (p : Plan) (buffer : List ℕ) where
  pub saves_none : valid_plan p ≡ false → Saves form p buffer (refusal no_plan_held (0 ∷ [])) buffer
  saves_none e = (sym (save_none form p buffer e), sym (save_keeps form p buffer e))

  module _ (valid : valid_plan p ≡ true) (n : ℕ) (is : n ≡ length (form_bytes form p)) where
    pub saves_short : length buffer < n → Saves form p buffer (refusal short_buffer (n ∷ [])) buffer
    saves_short l =
        let less : length buffer < length (form_bytes form p) = rw is at l in
        (rw is (sym (save_short form p buffer valid less)), sym (save_short_keeps form p buffer valid less))

    pub saves_written : {exit : List ℕ} → n ≤ length buffer → exit ≡ over (form_bytes form p) buffer → Saves form p buffer (result n) exit
    saves_written l e =
        let room : length (form_bytes form p) ≤ length buffer = rw is at l in
        (rw is (sym (save_written form p buffer valid room)), e ∙ sym (save_lays form p buffer valid room))
