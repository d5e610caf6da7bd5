-- Laws of the first field that should have stood earlier, and which field that is by keys.
use Rattle.std.specs.Prelude.{ℕ, zero, suc, ◌≤◌, ◌≡◌, refl, List, [], ◌∷◌, Bool, true, false, ◌||◌, ltb, length}
use Rattle.std.proofs.Common.{sym, arith, le-ltb, ltb-false}
use Rattle.cqf.specs.Form.{Form}
use Rattle.plan.specs.Field.{Field, FieldRead, field, refused, field_at}
use Rattle.plan_reading.specs.Key.{key_of}
use Rattle.plan_reading.specs.Ranges.{NumbersOk}
use Rattle.plan_reading.specs.Strict.{overdue, late_from}
use Rattle.plan.specs.laws.Whole.{not_whole}
use Rattle.plan.specs.laws.Tested.{field_cut}
use Rattle.plan_reading.specs.laws.fields.Found.{found_forward, found_within}
use Rattle.plan_reading.specs.laws.order.Ranks.{before_key}

-- past the plan's end no field stands
pub past_end : (form : Form) (s : List ℕ) (at : ℕ) → length s ≤ at → field_at form s at ≡ refused 2 at
past_end form s at end = field_cut form s at (not_whole s at (omega arith))

-- the first field that should have stood earlier, field by field
module _ (form : Form) (n : ℕ) (front : List Field) (s : List ℕ) (at : ℕ) where
  pub late_refused : (k o : ℕ) → field_at form s at ≡ refused k o → late_from form (suc n) front s at ≡ length s
  unfolding late_from
  late_refused k o e = rw (e, late_from)

  pub late_here : (x : Field) (next : ℕ) → field_at form s at ≡ field x next → overdue x front ≡ true → late_from form (suc n) front s at ≡ at
  unfolding late_from
  late_here x next e o = rw (e, o, late_from)

  pub late-past
      : (x : Field) (next : ℕ)
      → field_at form s at ≡ field x next
      → overdue x front ≡ false
      → late_from form (suc n) front s at ≡ late_from form n (x ∷ front) s next
  unfolding late_from
  late-past x next e o = rw (e, o, late_from)

-- it does not stand before the offset that is looked from
pub late-onward : (form : Form) (n : ℕ) (front : List Field) (s : List ℕ) (at : ℕ) → at ≤ length s → at ≤ late_from form n front s at
unfolding late_from
late-onward form zero front s at inside = inside
late-onward form (suc n) front s at inside = go (λ x next. late-onward form n (x ∷ front) s next) (field_at form s at) refl
  where
    Rest : Type 0
    Rest = (x : Field) (next : ℕ) → next ≤ length s → next ≤ late_from form n (x ∷ front) s next

    by_front : Rest → (x : Field) (next : ℕ) → field_at form s at ≡ field x next → (b : Bool) → overdue x front ≡ b → at ≤ late_from form (suc n) front s at
    by_front rest x next e true o = omega (arith, late_here form n front s at x next e o)
    by_front rest x next e false o =
        omega (arith, late-past form n front s at x next e o, rest x next (found_within form s at x next e), found_forward form s at x next e)

    go : Rest → (r : FieldRead) → field_at form s at ≡ r → at ≤ late_from form (suc n) front s at
    go rest (refused k o) e = omega (arith, late_refused form n front s at k o e)
    go rest (field x next) e = by_front rest x next e (overdue x front) refl

-- one of the fields in front is due after x exactly when the key of the last one is above x's
abbrev pub Known : Form → List Field → ℕ → Type 0
Known form front last = (x : Field) → NumbersOk form x → overdue x front ≡ ltb (key_of x) last

pub known_none : {form : Form} → Known form [] 0
unfolding overdue
known_none x ok = sym (le-ltb (key_of x) 0 (omega arith))

pub known_next
    : {form : Form} (front : List Field) (last : ℕ) (x : Field)
    → NumbersOk form x
    → Known form front last
    → ltb (key_of x) last ≡ false
    → Known form (x ∷ front) (key_of x)
unfolding overdue
known_next front last x ok known in_time y k = rw (before_key y x k ok, known y k) (go (ltb (key_of y) (key_of x)) refl)
  where
    go : (b : Bool) → ltb (key_of y) (key_of x) ≡ b → b || ltb (key_of y) last ≡ b
    go true e = refl
    go false e = le-ltb (key_of y) last (omega (arith, ltb-false (key_of y) (key_of x) e, ltb-false (key_of x) last in_time))
