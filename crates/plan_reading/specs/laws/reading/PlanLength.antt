-- Laws of test 1: the plan's length.
use Rattle.std.specs.Prelude.{ℕ, ◌≡◌, List, Bool, true, false, length}
use Rattle.std.proofs.Math.Path.{refl}
use Rattle.std.proofs.Common.{sym, ◌∙◌}
use Rattle.cqf.specs.Form.{Form}
use Rattle.cqf.specs.Bounded.{within}
use Rattle.cqf.specs.Plan.{Plan}
use Rattle.plan.specs.Layout.{form_by}
use Rattle.plan_reading.specs.Draft.{blank}
use Rattle.plan_reading.specs.Reading.{accepted, rejected, Mode, mode_in, max_bytes, read_from, read_form, read_as_of}

module _ (form : Form) (mode : Mode) (s : List ℕ) where
  pub form_unsized : within 1 max_bytes (length s) ≡ false → read_form form mode s ≡ rejected 1 0
  unfolding read_form
  form_unsized e = rw (e, read_form)

  pub form_sized : within 1 max_bytes (length s) ≡ true → read_form form mode s ≡ read_from form (mode_in form mode) (length s) s 0 0 blank
  unfolding read_form
  form_sized e = rw (e, read_form)

  -- an accepted plan has a length that is allowed
  pub sized : (p : Plan) (ports flows : ℕ) → read_form form mode s ≡ accepted p ports flows → within 1 max_bytes (length s) ≡ true
  sized p m k e = go (within 1 max_bytes (length s)) refl
    where
      go : (b : Bool) → within 1 max_bytes (length s) ≡ b → within 1 max_bytes (length s) ≡ true
      go true q = q
      go false q = let z : rejected 1 0 ≡ accepted p m k = sym (form_unsized q) ∙ e in cc

-- bytes that are read by the form that they tell
module _ (mode : Mode) (s : List ℕ) where
  pub read_form_lem : read_as_of mode s ≡ read_form (form_by s) mode s
  unfolding read_as_of
  read_form_lem = refl

  pub read_unsized : within 1 max_bytes (length s) ≡ false → read_as_of mode s ≡ rejected 1 0
  read_unsized e = read_form_lem ∙ form_unsized (form_by s) mode s e

  pub read_sized : within 1 max_bytes (length s) ≡ true → read_as_of mode s ≡ read_from (form_by s) (mode_in (form_by s) mode) (length s) s 0 0 blank
  read_sized e = read_form_lem ∙ form_sized (form_by s) mode s e
