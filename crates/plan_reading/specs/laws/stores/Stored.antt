-- A sequence of whole fields, stored one after the other: what it leaves does not hang on their order.
use Rattle.std.specs.Prelude.{◌≡◌, refl, Bool, true, false, eqb, ℕ, length}
use Rattle.std.proofs.Common.{sym, ◌∙◌, subst, arith, eqb-true, get_or-set_same, get_or-set_other, length-set}
use mathlib.Core.List.{List, [], ◌∷◌, Permᴰ}
use Rattle.std.proofs.lemmas.Bool.{eqb-false}
use Rattle.cqf.specs.Form.{Form}
use Rattle.plan.specs.Bytes.{tag_at, value_at}
use Rattle.plan.specs.Field.{Field, route_in}
use Rattle.plan_reading.specs.Key.{key_slots, key_of}
use Rattle.plan_reading.specs.Draft.{Draft, has_key, taken, added}
use Rattle.plan_reading.specs.Ranges.{NumbersOk}
use Rattle.plan_reading.specs.laws.fields.Kinds.{key_below}
use Rattle.plan_reading.specs.laws.fields.Passes.{Passes, passes_once}
use Rattle.plan_reading.specs.laws.stores.Commute.{taken-apart, fresh_apart, added_comm}

-- the route in the value of a field that stands alone
abbrev route_of : List ℕ → Field → List ℕ
route_of b x = route_in x.kind (value_at b 0)

-- these fields of plans of this form, stored into draft d, leave draft e
pub data Stored (form : Form) : List (List ℕ) → Draft → Draft → Type 0 where
  nothing : {d e : Draft} → d ≡ e → Stored form [] d e
  next
      : {b : List ℕ} {bs : List (List ℕ)} {d e : Draft} (x : Field)
      → Passes form (tag_at b 0) (value_at b 0) x
      → taken d x ≡ false
      → Stored form bs (added d x (route_of b x)) e
      → Stored form (b ∷ bs) d e

-- they leave one draft
pub stored_once : {form other : Form} {bs : List (List ℕ)} {d e f : Draft} → Stored form bs d e → Stored other bs d f → e ≡ f
stored_once (nothing p) (nothing q) = sym p ∙ q
stored_once {other = form} {f = f} (next {b = b} {bs = bs} {d = d} x k fresh rest) (next y m _ other) =
    let same : y ≡ x = passes_once (tag_at b 0) (value_at b 0) y x m k in
    stored_once {f = f} rest (subst (λ (z : Field). Stored form bs (added d z (route_of b z)) f) same other)

-- there is a flag for each key
abbrev pub Flagged : Draft → Type 0
Flagged d = length d.seen ≡ key_slots

pub added_flagged : (d : Draft) (x : Field) (r : List ℕ) → Flagged d → Flagged (added d x r)
unfolding added
added_flagged d x r s = length-set d.seen (key_of x) 1 ∙ s

-- the key of a field that was added is taken, and stays so
pub key_taken : {form : Form} (d : Draft) (x : Field) (r : List ℕ) → Flagged d → NumbersOk form x → has_key (added d x r) (key_of x) ≡ true
unfolding added
key_taken d x r flagged k = rw (get_or-set_same d.seen (key_of x) 1 0 (omega (arith, flagged, key_below x k)))

pub key_stays
    : {form : Form} (d : Draft) (x : Field) (r : List ℕ) (key : ℕ)
    → Flagged d
    → NumbersOk form x
    → has_key d key ≡ true
    → has_key (added d x r) key ≡ true
unfolding added
key_stays d x r key flagged k e = go (eqb key (key_of x)) refl
  where
    go : (b : Bool) → eqb key (key_of x) ≡ b → has_key (added d x r) key ≡ true
    go true same = rw (eqb-true key (key_of x) same) (key_taken d x r flagged k)
    go false apart = rw (get_or-set_other d.seen (key_of x) key 1 0 (eqb-false key (key_of x) apart)) e

-- two neighbours change places
swapped
    : {form : Form} (b c : List ℕ) (bs : List (List ℕ)) (d e : Draft)
    → Flagged d
    → Stored form (b ∷ c ∷ bs) d e
    → Stored form (c ∷ b ∷ bs) d e
swapped {form} b c bs d e s (next x k free (next y m fresh rest)) =
    let v = route_of b x in
    let w = route_of c y in
    let differ = fresh_apart d x y v s k.ok fresh in
    Stored.next {d = d} {e = e} y m (sym (taken-apart d x y v differ) ∙ fresh)
    (Stored.next {d = added d y w} {e = e} x k (taken-apart d y x w (λ e. differ (sym e)) ∙ free)
    (subst (λ (z : Draft). Stored form bs z e) (added_comm x y v w k.ok m.ok k.route m.route differ d) rest))

-- every order of the fields leaves the same draft
pub stored_permuted
    : {form : Form} {bs cs : List (List ℕ)} (d e : Draft)
    → Permᴰ bs cs
    → Flagged d
    → Stored form bs d e
    → Stored form cs d e
stored_permuted d e Permᴰ.nil s h = h
stored_permuted d e (Permᴰ.cons {a = b} {b = c} same perm) s (next x k fresh rest) =
    Stored.next {d = d} x (rw same at k) fresh
    (rw same at (stored_permuted (added d x (route_of b x)) e perm (added_flagged d x (route_of b x) s) rest))
stored_permuted d e (Permᴰ.swap {a = b} {b = c} {l = bs} p q) s h = rw (p, q) at (swapped b c bs d e s h)
stored_permuted d e (Permᴰ.trans p q) s h = stored_permuted d e q s (stored_permuted d e p s h)
