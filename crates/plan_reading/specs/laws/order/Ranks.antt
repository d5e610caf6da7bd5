-- Keys rise with tags and numbers, in plans of either form.
use Rattle.std.specs.Prelude.{ℕ, zero, suc, ◌+◌, ◌≤◌, ◌≡◌, refl, Bool, true, false, ◌&&◌, ◌||◌, ltb, eqb}
use Rattle.std.proofs.Common.{sym, arith, lt-ltb, le-ltb, ltb-true, ltb-false, eqb-true}
use Rattle.std.proofs.lemmas.Bool.{eqb-false}
use Rattle.cqf.specs.Form.{Form}
use Rattle.plan.specs.Field.{Field}
use Rattle.plan_reading.specs.Key.{key_of}
use Rattle.plan_reading.specs.Rank.{tag_of, number_of, before}
use Rattle.plan_reading.specs.Ranges.{NumbersOk}
use Rattle.plan_reading.specs.laws.fields.Kinds.{first_number, first_key, Keyed, keyed}

-- the keys of a tag come after those of the tags before it
keys_rise : (form : Form) (low high : ℕ) → low ≤ high → first_key form low ≤ first_key form high
unfolding first_key
keys_rise form low zero h = let e : low ≡ 0 = omega arith in rw e (omega arith)
keys_rise form low (suc high) h = go (keys_rise form low high) (ltb high low) refl
  where
    go : (low ≤ high → first_key form low ≤ first_key form high) → (b : Bool) → ltb high low ≡ b → first_key form low ≤ first_key form (suc high)
    go rest true e = let same : low ≡ suc high = omega (arith, ltb-true high low e) in rw same (omega arith)
    go rest false e = omega (arith, rest (ltb-false high low e))

-- x is due before y exactly when its key is the lower
pub before_key : {form : Form} (x y : Field) → NumbersOk form x → NumbersOk form y → before x y ≡ ltb (key_of x) (key_of y)
before_key {form} x y k m = tags (ltb (tag_of x) (tag_of y)) refl (eqb (tag_of x) (tag_of y)) refl
  where
    a : Keyed form (tag_of x) (number_of x) (key_of x)
    a = keyed x k

    b : Keyed form (tag_of y) (number_of y) (key_of y)
    b = keyed y m

    -- the key of a field is none before the first of its tag
    lowest : first_key form (tag_of y) ≤ key_of y
    lowest = omega (arith, b.numbered, b.placed)

    lower : first_key form (tag_of x) ≤ key_of x
    lower = omega (arith, a.numbered, a.placed)

    same : tag_of x ≡ tag_of y → (c : Bool) → ltb (number_of x) (number_of y) ≡ c → c ≡ ltb (key_of x) (key_of y)
    same e true h =
        let p : key_of x + first_number form (tag_of y) ≡ first_key form (tag_of y) + number_of x = rw e at a.placed in
        sym (lt-ltb (key_of x) (key_of y) (omega (arith, ltb-true (number_of x) (number_of y) h, b.placed)))
    same e false h =
        let p : key_of x + first_number form (tag_of y) ≡ first_key form (tag_of y) + number_of x = rw e at a.placed in
        sym (le-ltb (key_of x) (key_of y) (omega (arith, ltb-false (number_of x) (number_of y) h, b.placed)))

    tags
        : (c : Bool) → ltb (tag_of x) (tag_of y) ≡ c
        → (e : Bool) → eqb (tag_of x) (tag_of y) ≡ e
        → c || (e && ltb (number_of x) (number_of y)) ≡ ltb (key_of x) (key_of y)
    tags true h e g =
        let up = keys_rise form (suc (tag_of x)) (tag_of y) (ltb-true (tag_of x) (tag_of y) h) in
        sym (lt-ltb (key_of x) (key_of y) (omega (arith, up, a.fits, lowest)))
    tags false h true g = same (eqb-true _ _ g) (ltb (number_of x) (number_of y)) refl
    tags false h false g =
        let apart = eqb-false (tag_of x) (tag_of y) g in
        let up = keys_rise form (suc (tag_of y)) (tag_of x) (omega (arith, ltb-false (tag_of x) (tag_of y) h, apart)) in
        sym (le-ltb (key_of x) (key_of y) (omega (arith, up, b.fits, lower)))
