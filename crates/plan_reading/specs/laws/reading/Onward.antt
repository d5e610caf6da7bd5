-- Laws of the reading, field after field: a step that goes on reaches a later offset, and the plan's length is enough for all steps.
use Prim.Native.Nat.{ℕ, zero, suc, ◌+◌, ◌≤◌, ◌<◌}
use Rattle.std.specs.Prelude.{◌≡◌, List, Bool, true, false, ltb, length}
use Rattle.std.proofs.Math.Path.{refl}
use Rattle.std.proofs.Common.{sym, ap, ◌∙◌, arith, lt-ltb, le-ltb, ltb-true, ltb-false}
use Rattle.plan.specs.Bytes.{head_size}
use Rattle.cqf.specs.Form.{Form}
use Rattle.plan_reading.specs.Part.{parts_of}
use Rattle.plan_reading.specs.Draft.{Draft, added, ports_in, flows_in, sum_of}
use Rattle.plan_reading.specs.Reading.{rejected, Mode, route_at, Step, stop, more, step_at, closing, read_from}
use Rattle.plan_reading.specs.laws.fields.Kinds.{ports_one, flows_one}
use Rattle.plan_reading.specs.laws.fields.Found.{found_forward, found_within}
use Rattle.plan_reading.specs.laws.reading.Steps.{step_more}

-- a step that goes on reaches a later offset within the plan, and has counted one field more at the most
pub record Onward (s : List ℕ) (at : ℕ) (d : Draft) (next : ℕ) (d' : Draft) : Type 0 where
  pub forward : at + head_size ≤ next
  pub inside : next ≤ length s
  pub ports : d'.ports ≤ d.ports + 1
  pub flows : d'.flows ≤ d.flows + 1

pub onward
    : (form : Form) (mode : Mode) (s : List ℕ) (at last : ℕ) (d : Draft) (next key : ℕ) (d' : Draft)
    → step_at form mode s at last d ≡ more next key d'
    → Onward s at d next d'
unfolding added
onward form mode s at last d next key d' e =
    let t = step_more form mode s at last d next key d' e in
    let r = route_at t.part.kind s at in
    let ep : d.ports + sum_of ports_in (parts_of t.part r) ≡ d'.ports = ap (λ (y : Draft). y.ports) t.adds in
    let ef : d.flows + sum_of flows_in (parts_of t.part r) ≡ d'.flows = ap (λ (y : Draft). y.flows) t.adds in
    record {
      forward = found_forward form s at t.part next t.stands;
      inside = found_within form s at t.part next t.stands;
      ports = omega (arith, ports_one t.part r);
      flows = omega (arith, flows_one t.part r);
    }

module _ (form : Form) (mode : Mode) (s : List ℕ) (at last : ℕ) (d : Draft) where
  -- at the plan's end, whatever number of steps is left
  pub read_end : (n : ℕ) → length s ≤ at → read_from form mode n s at last d ≡ closing s d
  unfolding read_from
  read_end zero h = refl
  read_end (suc n) h = rw (le-ltb at (length s) h, read_from)

  pub stop_one
      : (n : ℕ) (k o : ℕ)
      → at < length s
      → step_at form mode s at last d ≡ stop k o
      → read_from form mode (suc n) s at last d ≡ rejected k o
  unfolding read_from
  stop_one n k o h e = rw (lt-ltb at (length s) h, e, read_from)

  pub more_one
      : (n : ℕ) (next key : ℕ) (d' : Draft)
      → at < length s
      → step_at form mode s at last d ≡ more next key d'
      → read_from form mode (suc n) s at last d ≡ read_from form mode n s next key d'
  unfolding read_from
  more_one n next key d' h e = rw (lt-ltb at (length s) h, e, read_from)

-- any number of steps that is no less than the bytes left gives the same reading
pub read_enough
    : (form : Form) (mode : Mode) (n m : ℕ) (s : List ℕ) (at last : ℕ) (d : Draft)
    → length s ≤ at + n
    → length s ≤ at + m
    → read_from form mode n s at last d ≡ read_from form mode m s at last d
read_enough form mode zero m s at last d h g =
    read_end form mode s at last d zero (omega arith) ∙ sym (read_end form mode s at last d m (omega arith))
read_enough form mode (suc n) zero s at last d h g =
    read_end form mode s at last d (suc n) (omega arith) ∙ sym (read_end form mode s at last d zero (omega arith))
read_enough form mode (suc n) (suc m) s at last d h g = by_end (λ next key d'. read_enough form mode n m s next key d') (ltb at (length s)) refl
  where
    Rest : Type 0
    Rest =
        (next key : ℕ) (d' : Draft)
        → length s ≤ next + n
        → length s ≤ next + m
        → read_from form mode n s next key d' ≡ read_from form mode m s next key d'

    by_step
        : Rest
        → (r : Step)
        → step_at form mode s at last d ≡ r
        → at < length s
        → read_from form mode (suc n) s at last d ≡ read_from form mode (suc m) s at last d
    by_step rest (stop k o) e l = stop_one form mode s at last d n k o l e ∙ sym (stop_one form mode s at last d m k o l e)
    by_step rest (more next key d') e l =
        let f = onward form mode s at last d next key d' e in
        more_one form mode s at last d n next key d' l e
        ∙ rest next key d' (omega (arith, f.forward)) (omega (arith, f.forward))
        ∙ sym (more_one form mode s at last d m next key d' l e)

    by_end : Rest → (b : Bool) → ltb at (length s) ≡ b → read_from form mode (suc n) s at last d ≡ read_from form mode (suc m) s at last d
    by_end rest true e = by_step rest (step_at form mode s at last d) refl (ltb-true _ _ e)
    by_end rest false e =
        read_end form mode s at last d (suc n) (ltb-false _ _ e) ∙ sym (read_end form mode s at last d (suc m) (ltb-false _ _ e))

-- one field, with the plan's length as the bound throughout
module _ (form : Form) (mode : Mode) (s : List ℕ) (at last : ℕ) (d : Draft) (l : at < length s) where
  pub read_stop : (k o : ℕ) → step_at form mode s at last d ≡ stop k o → read_from form mode (length s) s at last d ≡ rejected k o
  read_stop k o e =
      read_enough form mode (length s) (suc (length s)) s at last d (omega arith) (omega arith)
      ∙ stop_one form mode s at last d (length s) k o l e

  pub read_more
      : (next key : ℕ) (d' : Draft)
      → step_at form mode s at last d ≡ more next key d'
      → read_from form mode (length s) s at last d ≡ read_from form mode (length s) s next key d'
  read_more next key d' e =
      read_enough form mode (length s) (suc (length s)) s at last d (omega arith) (omega arith)
      ∙ more_one form mode s at last d (length s) next key d' l e
