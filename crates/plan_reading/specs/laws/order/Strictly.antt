-- The strict reading by the loose one and the first field that should have stood earlier.
use Rattle.std.specs.Prelude.{ℕ, zero, suc, ◌<◌, ◌≡◌, refl, List, [], ◌∷◌, Bool, true, false, cond, ltb, length}
use Rattle.std.proofs.Common.{sym, ap, ◌∙◌, arith, lt-ltb, le-ltb, le-leb, ltb-true, ltb-false}
use Rattle.cqf.specs.Bounded.{within}
use Rattle.cqf.specs.Form.{Form, older, newer}
use Rattle.plan.specs.Layout.{form_by}
use Rattle.plan.specs.Field.{Field, FieldRead, field, refused, field_at}
use Rattle.plan_reading.specs.Key.{key_of}
use Rattle.plan_reading.specs.Ranges.{NumbersOk}
use Rattle.plan_reading.specs.Draft.{Draft, blank, taken, field_repeats, added}
use Rattle.plan_reading.specs.Reading.{PlanRead, rejected, Mode, loose, strict, mode_in, route_at, closing, read_from, read_as_of, max_bytes}
use Rattle.plan_reading.specs.Strict.{overdue, late_from, first_late, found_before, strictly}
use Rattle.plan_reading.specs.laws.fields.Found.{found-numbers, found_forward, found_within}
use Rattle.plan_reading.specs.laws.reading.Steps.{step_refused, step_taken, step_late, step_repeats, step_Added}
use Rattle.plan_reading.specs.laws.reading.Onward.{read_end, stop_one, more_one}
use Rattle.plan_reading.specs.laws.reading.PlanLength.{read_unsized, read_sized}
use Rattle.plan_reading.specs.laws.reading.Refusals.{refused_here, closed_last, found_after}
use Rattle.plan_reading.specs.laws.order.Late.{past_end, late_refused, late_here, late-past, late-onward, Known, known_none, known_next}

-- an answer that is found before stands
stands : (s : List ℕ) (at : ℕ) (answer : PlanRead) → found_before s at answer ≡ true → answer ≡ strictly s at answer
stands s at answer e = rw e

closed : (s : List ℕ) (d : Draft) → closing s d ≡ strictly s (length s) (closing s d)
closed s d = stands s (length s) (closing s d) (closed_last s d (length s) ∙ le-leb (length s) (length s) (omega arith))

-- the strict reading of the fields from this offset on is the loose one but for a field that should have stood earlier
abbrev Strictly : Form → ℕ → List ℕ → (at last : ℕ) → Draft → List Field → Type 0
Strictly form n s at last d front = read_from form strict n s at last d ≡ strictly s (late_from form n front s at) (read_from form loose n s at last d)

-- one field, and those after it
module _ (form : Form) (n : ℕ) (s : List ℕ) (at last : ℕ) (d : Draft) (front : List Field) (inside : at < length s) where
  -- both readings stop at this field, before test 12
  both_stop : (k o : ℕ)
      → read_from form strict (suc n) s at last d ≡ rejected k o
      → read_from form loose (suc n) s at last d ≡ rejected k o
      → found_before s (late_from form (suc n) front s at) (rejected k o) ≡ true
      → Strictly form (suc n) s at last d front
  both_stop k o a b f = a ∙ stands s (late_from form (suc n) front s at) (rejected k o) f ∙ rw b

  from_refused : (k o : ℕ) → field_at form s at ≡ refused k o → Strictly form (suc n) s at last d front
  from_refused k o e =
      let h = refused_here form s at k o e in
      let whole = late_refused form n front s at k o e in
      both_stop k o
      (stop_one form strict s at last d n k o inside (step_refused form strict s at last d k o e))
      (stop_one form loose s at last d n k o inside (step_refused form loose s at last d k o e))
      (rw (le-leb k 6 h.early) (le-leb o (late_from form (suc n) front s at) (omega (arith, h.place))))

  module _ (x : Field) (next : ℕ) (e : field_at form s at ≡ field x next) where
    from_taken : taken d x ≡ true → Strictly form (suc n) s at last d front
    from_taken t =
        both_stop 6 at
        (stop_one form strict s at last d n 6 at inside (step_taken form strict s at last d x next e t))
        (stop_one form loose s at last d n 6 at inside (step_taken form loose s at last d x next e t))
        (le-leb at (late_from form (suc n) front s at) (late-onward form (suc n) front s at (omega arith)))

    -- test 12 finds it, and the loose reading finds nothing before
    nothing_before : taken d x ≡ false → found_before s at (read_from form loose (suc n) s at last d) ≡ false
    nothing_before t = go (field_repeats (route_at x.kind s at)) refl
      where
        go : (b : Bool) → field_repeats (route_at x.kind s at) ≡ b → found_before s at (read_from form loose (suc n) s at last d) ≡ false
        go true g =
            rw (stop_one form loose s at last d n 7 at inside (step_repeats form loose s at last d x next e t refl g))
            (le-ltb at at (omega arith))
        go false g =
            rw (more_one form loose s at last d n next (key_of x) (added d x (route_at x.kind s at)) inside (step_Added form loose s at last d x next e t refl g))
            (found_after form loose n s next (key_of x) (added d x (route_at x.kind s at)) at (omega (arith, found_forward form s at x next e)) inside)

    from_late : taken d x ≡ false → overdue x front ≡ true → ltb (key_of x) last ≡ true → Strictly form (suc n) s at last d front
    from_late t o l =
        stop_one form strict s at last d n 12 at inside (step_late form strict s at last d x next e t l)
        ∙ rw (late_here form n front s at x next e o, nothing_before t)

    -- it is in time
    module _ (t : taken d x ≡ false) (o : overdue x front ≡ false) (l : ltb (key_of x) last ≡ false) where
      from_repeats : field_repeats (route_at x.kind s at) ≡ true → Strictly form (suc n) s at last d front
      from_repeats g =
          let past = late-past form n front s at x next e o in
          let onward = late-onward form n (x ∷ front) s next (found_within form s at x next e) in
          both_stop 7 at
          (stop_one form strict s at last d n 7 at inside (step_repeats form strict s at last d x next e t l g))
          (stop_one form loose s at last d n 7 at inside (step_repeats form loose s at last d x next e t refl g))
          (lt-ltb at (late_from form (suc n) front s at) (omega (arith, found_forward form s at x next e)))

      from_added
          : field_repeats (route_at x.kind s at) ≡ false
          → Strictly form n s next (key_of x) (added d x (route_at x.kind s at)) (x ∷ front)
          → Strictly form (suc n) s at last d front
      from_added g rest =
          let after = added d x (route_at x.kind s at) in
          more_one form strict s at last d n next (key_of x) after inside (step_Added form strict s at last d x next e t l g)
          ∙ rest
          ∙ rw (
            late-past form n front s at x next e o,
            more_one form loose s at last d n next (key_of x) after inside (step_Added form loose s at last d x next e t refl g),
          )

    -- by the tests 6, 12 and 7, where the fields after it are read so
    module _
        (known : Known form front last)
        (rest : (after : Draft) → Known form (x ∷ front) (key_of x) → Strictly form n s next (key_of x) after (x ∷ front)) where
      ok : NumbersOk form x
      ok = found-numbers form s at x next e

      by_repeats
          : taken d x ≡ false
          → ltb (key_of x) last ≡ false
          → (b : Bool)
          → field_repeats (route_at x.kind s at) ≡ b
          → Strictly form (suc n) s at last d front
      by_repeats t l true g = from_repeats t (known x ok ∙ l) l g
      by_repeats t l false g =
          from_added t (known x ok ∙ l) l g (rest (added d x (route_at x.kind s at)) (known_next front last x ok known l))

      by_key : taken d x ≡ false → (b : Bool) → ltb (key_of x) last ≡ b → Strictly form (suc n) s at last d front
      by_key t true l = from_late t (known x ok ∙ l) l
      by_key t false l = by_repeats t l (field_repeats (route_at x.kind s at)) refl

      from_field : (b : Bool) → taken d x ≡ b → Strictly form (suc n) s at last d front
      from_field true t = from_taken t
      from_field false t = by_key t (ltb (key_of x) last) refl

-- the fields from this offset on
pub strict_from : (form : Form) (n : ℕ) (s : List ℕ) (at last : ℕ) (d : Draft) (front : List Field) → Known form front last → Strictly form n s at last d front
unfolding read_from late_from
strict_from form zero s at last d front known = closed s d
strict_from form (suc n) s at last d front known =
    by_end (λ x next after k. strict_from form n s next (key_of x) after (x ∷ front) k) (ltb at (length s)) refl
  where
    Rest : Type 0
    Rest = (x : Field) (next : ℕ) (after : Draft) → Known form (x ∷ front) (key_of x) → Strictly form n s next (key_of x) after (x ∷ front)

    by_field : Rest → at < length s → (r : FieldRead) → field_at form s at ≡ r → Strictly form (suc n) s at last d front
    by_field rest inside (refused k o) e = from_refused form n s at last d front inside k o e
    by_field rest inside (field x next) e = from_field form n s at last d front inside x next e known (rest x next) (taken d x) refl

    by_end : Rest → (b : Bool) → ltb at (length s) ≡ b → Strictly form (suc n) s at last d front
    by_end rest true e = by_field rest (ltb-true at (length s) e) (field_at form s at) refl
    by_end rest false e =
        let end = ltb-false at (length s) e in
        read_end form strict s at last d (suc n) end
        ∙ closed s d
        ∙ rw (late_refused form n front s at 2 at (past_end form s at end), read_end form loose s at last d (suc n) end)

-- test 12 finds nothing in what it answered itself
strictly_again : (s : List ℕ) (at : ℕ) (answer : PlanRead) → strictly s at (strictly s at answer) ≡ strictly s at answer
strictly_again s at answer = go (found_before s at answer) refl
  where
    late : (b : Bool) → cond b (rejected 12 at) (rejected 12 at) ≡ rejected 12 at
    late true = refl
    late false = refl

    go : (b : Bool) → found_before s at answer ≡ b → strictly s at (strictly s at answer) ≡ strictly s at answer
    go true e = ap (strictly s at) (sym (stands s at answer e))
    go false e = let same : strictly s at answer ≡ rejected 12 at = rw e in ap (strictly s at) same ∙ late (found_before s at (rejected 12 at)) ∙ sym same

-- so it is of a plan of the newer form too, whose loose reading is strict
in_form
    : (form : Form) (s : List ℕ) (at : ℕ) (reads : Mode → PlanRead)
    → reads strict ≡ strictly s at (reads loose)
    → reads (mode_in form strict) ≡ strictly s at (reads (mode_in form loose))
in_form older s at reads e = e
in_form newer s at reads e = e ∙ sym (strictly_again s at (reads loose)) ∙ ap (strictly s at) (sym e)

-- a whole plan
pub strict_reading : (s : List ℕ) → read_as_of strict s ≡ strictly s (first_late s) (read_as_of loose s)
unfolding first_late
strict_reading s = go (within 1 max_bytes (length s)) refl
  where
    go : (b : Bool) → within 1 max_bytes (length s) ≡ b → read_as_of strict s ≡ strictly s (late_from (form_by s) (length s) [] s 0) (read_as_of loose s)
    go true e =
        read_sized strict s e
        ∙ in_form (form_by s) s (late_from (form_by s) (length s) [] s 0) (λ mode. read_from (form_by s) mode (length s) s 0 0 blank)
        (strict_from (form_by s) (length s) s 0 0 blank [] known_none)
        ∙ rw (read_sized loose s e)
    go false e =
        read_unsized strict s e
        ∙ stands s (late_from (form_by s) (length s) [] s 0) (rejected 1 0) (le-leb 0 (late_from (form_by s) (length s) [] s 0) (omega arith))
        ∙ rw (read_unsized loose s e)
