-- Laws of one field of the reading: which test stops it, and what a step that goes on leaves.
use Rattle.std.specs.Prelude.{ℕ, ◌≡◌, refl, List, Bool, true, false, cond}
use Rattle.std.proofs.Common.{◌∙◌, arith}
use Rattle.std.proofs.Math.Path.{ap}
use Rattle.cqf.specs.Form.{Form}
use Rattle.plan.specs.Field.{Field, FieldRead, field, refused, field_at}
use Rattle.plan_reading.specs.Key.{key_of}
use Rattle.plan_reading.specs.Draft.{Draft, taken, field_repeats, added}
use Rattle.plan_reading.specs.Reading.{Mode, Step, stop, more, route_at, late, field_step, step_at}

-- a field that tests 2 to 5 refuse
pub step_refused
    : (form : Form) (mode : Mode) (s : List ℕ) (at last : ℕ) (d : Draft) (n o : ℕ)
    → field_at form s at ≡ refused n o
    → step_at form mode s at last d ≡ stop n o
unfolding step_at
step_refused form mode s at last d n o f = ap (field_step mode s at last d) f

-- the tests 6, 12 and 7 of any other, and what it adds
module _ (form : Form) (mode : Mode) (s : List ℕ) (at last : ℕ) (d : Draft) (x : Field) (m : ℕ) (f : field_at form s at ≡ field x m) where
  passed : step_at form mode s at last d ≡ field_step mode s at last d (field x m)
  unfolding step_at
  passed = ap (field_step mode s at last d) f

  pub step_taken : taken d x ≡ true → step_at form mode s at last d ≡ stop 6 at
  step_taken e = passed ∙ rw e

  pub step_late : taken d x ≡ false → late mode last x ≡ true → step_at form mode s at last d ≡ stop 12 at
  step_late e l = passed ∙ rw (e, l)

  pub step_repeats
      : taken d x ≡ false
      → late mode last x ≡ false
      → field_repeats (route_at x.kind s at) ≡ true
      → step_at form mode s at last d ≡ stop 7 at
  step_repeats e l g = passed ∙ rw (e, l, g)

  pub step_Added
      : taken d x ≡ false
      → late mode last x ≡ false
      → field_repeats (route_at x.kind s at) ≡ false
      → step_at form mode s at last d ≡ more m (key_of x) (added d x (route_at x.kind s at))
  step_Added e l g = passed ∙ rw (e, l, g)

-- a field that was not refused
pub record StepOutcome (form : Form) (mode : Mode) (s : List ℕ) (at last : ℕ) (d : Draft) (next key : ℕ) (e : Draft) : Type 0 where
  pub part : Field
  pub stands : field_at form s at ≡ field part next
  pub fresh : taken d part ≡ false
  pub in_time : late mode last part ≡ false
  pub no_repeat : field_repeats (route_at part.kind s at) ≡ false
  pub keyed : key_of part ≡ key
  pub adds : added d part (route_at part.kind s at) ≡ e

pub step_more
    : (form : Form) (mode : Mode) (s : List ℕ) (at last : ℕ) (d : Draft) (next key : ℕ) (e : Draft)
    → step_at form mode s at last d ≡ more next key e
    → StepOutcome form mode s at last d next key e
unfolding step_at
step_more form mode s at last d next key e h = go (field_at form s at) refl h
  where
    go : (r : FieldRead) → field_at form s at ≡ r → field_step mode s at last d r ≡ more next key e → StepOutcome form mode s at last d next key e
    go (refused number offset) q h = let z : ◌≡◌ {A = ℕ} 0 1 = cc in absurd (omega arith)
    go (field x after) q h = six (taken d x) refl h
      where
        Seven : Bool → Step
        Seven b = cond b (stop 7 at) (more after (key_of x) (added d x (route_at x.kind s at)))

        seven
            : taken d x ≡ false
            → late mode last x ≡ false
            → (b : Bool)
            → field_repeats (route_at x.kind s at) ≡ b
            → Seven b ≡ more next key e
            → StepOutcome form mode s at last d next key e
        seven t k true l h = let z : ◌≡◌ {A = ℕ} 0 1 = cc in absurd (omega arith)
        seven t k false l h =
            let to : after ≡ next = cc in
            record { part = x; stands = rw (← to) q; fresh = t; in_time = k; no_repeat = l; keyed = cc; adds = cc }

        twelve
            : taken d x ≡ false
            → (b : Bool)
            → late mode last x ≡ b
            → cond b (stop 12 at) (Seven (field_repeats (route_at x.kind s at))) ≡ more next key e
            → StepOutcome form mode s at last d next key e
        twelve t true k h = let z : ◌≡◌ {A = ℕ} 0 1 = cc in absurd (omega arith)
        twelve t false k h = seven t k (field_repeats (route_at x.kind s at)) refl h

        six
            : (b : Bool)
            → taken d x ≡ b
            → cond b (stop 6 at) (cond (late mode last x) (stop 12 at) (Seven (field_repeats (route_at x.kind s at)))) ≡ more next key e
            → StepOutcome form mode s at last d next key e
        six true t h = let z : ◌≡◌ {A = ℕ} 0 1 = cc in absurd (omega arith)
        six false t h = twelve t (late mode last x) refl h
