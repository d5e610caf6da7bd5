-- What the tests 2 to 5 leave of a field: where it stands, its numbers and their ranges.
use Rattle.std.specs.Prelude.{◌≡◌, refl, List, [], ◌∷◌, Bool, true, false, ◌&&◌, ℕ, ◌+◌, eqb, length}
use Rattle.std.proofs.Common.{sym, ap, ◌∙◌, subst, arith, eqb-true}
use Rattle.std.proofs.Math.Option.{Option, some, none}
use Rattle.std.proofs.Math.Bool.{and-eq-true_iff}
use Rattle.plan.specs.Bytes.{head_size, tag_at, size_at, whole_at, value_at}
use Rattle.cqf.specs.Form.{Form}
use Rattle.plan.specs.Layout.{Kind, layout, hops_allowed, kinds}
use Rattle.plan.specs.Field.{Field, FieldRead, field, unless, numbers_at, in_ranges, hops_in, route_in, field_by, size_ok, ranges_ok, value_in, kind_by, kind_read, field_in, field_at}
use Rattle.plan_reading.specs.Ranges.{NumbersOk, RouteFits}
use Rattle.plan_reading.specs.Rank.{tag_of}
use Rattle.plan_reading.specs.FieldBytes.{size_of}
use Rattle.plan.specs.laws.Tested.{tag_kind, kind_form}
use Rattle.plan.specs.laws.Route.{value_hops}

-- field x is the one of this tag and value in a plan of this form
pub record Passes (form : Form) (tag : ℕ) (v : List ℕ) (x : Field) : Type 0 where
  pub kind : tag ≡ tag_of x
  pub numbers : field_by x.kind v ≡ x
  pub size : length v ≡ size_of x
  pub ok : NumbersOk form x
  pub route : RouteFits x (route_in x.kind v)

-- the parts of a longer conjunction
pub and_three : (a b c : Bool) → a && b && c ≡ true → (a ≡ true) × (b ≡ true) × (c ≡ true)
and_three a b c e =
    let l = (and-eq-true_iff (a && b) c).0 e in
    let m = (and-eq-true_iff a b).0 l.0 in
    (m.0, m.1, l.1)

-- a test that let a field pass held
unless-passes
    : (number offset : ℕ) (ok : Bool) (answer : FieldRead) {x : Field} {next : ℕ}
    → unless number offset ok answer ≡ field x next
    → (ok ≡ true) × (answer ≡ field x next)
unless-passes number offset true answer e = (refl, e)
unless-passes number offset false answer e = let z : false ≡ true = cc in (z, cc)

-- the field and the offset after it
pub record Read (form : Form) (tag : ℕ) (v : List ℕ) (after : ℕ) (x : Field) (next : ℕ) : Type 0 where
  pub follows : next ≡ after
  pub passes : Passes form tag v x

read_as
    : (form : Form) (tag : ℕ) (v : List ℕ) (after : ℕ) (y : Field) {x : Field} {next : ℕ}
    → Passes form tag v y
    → field y after ≡ field x next
    → Read form tag v after x next
read_as form tag v after y {x} h e = record { follows = cc; passes = let z : y ≡ x = cc in subst (Passes form tag v) z h }

-- a kind that is found by a tag has it
kind_tag : (ks : List Kind) (tag : ℕ) (k : Kind) → kind_by ks tag ≡ some k → tag ≡ (layout k).tag
unfolding kind_by
kind_tag [] tag k e = let z : ◌≡◌ {A = ℕ} 0 1 = cc in absurd (omega arith)
kind_tag (m ∷ ms) tag k e = go (kind_tag ms tag k) (eqb tag (layout m).tag) refl e
  where
    go
        : (kind_by ms tag ≡ some k → tag ≡ (layout k).tag)
        → (b : Bool)
        → eqb tag (layout m).tag ≡ b
        → elim b [ true ↦ some m | false ↦ kind_by ms tag ] ≡ some k
        → tag ≡ (layout k).tag
    go rest true h e = let same : m ≡ k = cc in eqb-true tag (layout m).tag h ∙ ap (λ (n : Kind). (layout n).tag) same
    go rest false h e = rest e

-- the tests 4 and 5 of a value
value_Passes
    : (form : Form) (tag : ℕ) (v : List ℕ) (at after : ℕ) (k : Kind) {x : Field} {next : ℕ}
    → kind_by (kinds form) tag ≡ some k
    → value_in k v at after ≡ field x next
    → Read form tag v after x next
unfolding value_in
value_Passes form tag v at after k found e =
    let a = unless-passes 4 at (size_ok k (length v)) _ e in
    let b = unless-passes 5 at (ranges_ok k v) _ a.1 in
    let long = (and-eq-true_iff (hops_allowed (layout k).most_hops (hops_in k (length v))) _).0 a.0 in
    let ranges = (and-eq-true_iff (in_ranges (layout k).numbers (numbers_at (layout k).numbers v 0)) _).0 b.0 in
    read_as form tag v after (field_by k v)
    (record {
      kind = kind_tag (kinds form) tag k found;
      numbers = refl;
      size = eqb-true (length v) _ long.1;
      ok = record { kind = kind_form form tag k found; ranges = ranges.0; hops = long.0 };
      route = record { hops = value_hops k v; ports = ranges.1 };
    })
    b.1

field_read
    : (form : Form) (tag : ℕ) (v : List ℕ) (at after : ℕ) {x : Field} {next : ℕ}
    → field_in form tag v at after ≡ field x next
    → Read form tag v after x next
unfolding field_in
field_read form tag v at after {x} {next} = go (kind_by (kinds form) tag) refl
  where
    go : (o : Option Kind) → kind_by (kinds form) tag ≡ o → kind_read o v at after ≡ field x next → Read form tag v after x next
    go none found e = let z : ◌≡◌ {A = ℕ} 0 1 = cc in absurd (omega arith)
    go (some k) found e = value_Passes form tag v at after k found e

-- a field of the plan is whole, and passes
pub field_is_whole : (form : Form) (s : List ℕ) (at : ℕ) (x : Field) (next : ℕ) → field_at form s at ≡ field x next → whole_at s at ≡ true
unfolding field_at
field_is_whole form s at x next e = (unless-passes 2 at (whole_at s at) _ e).0

pub field_passes
    : (form : Form) (s : List ℕ) (at : ℕ) (x : Field) (next : ℕ)
    → field_at form s at ≡ field x next
    → Read form (tag_at s at) (value_at s at) (at + head_size + size_at s at) x next
unfolding field_at
field_passes form s at x next e = field_read form (tag_at s at) (value_at s at) at _ (unless-passes 2 at (whole_at s at) _ e).1

-- a tag and a value are those of one field
pub passes_once : {form other : Form} (tag : ℕ) (v : List ℕ) (x y : Field) → Passes form tag v x → Passes other tag v y → x ≡ y
passes_once tag v x y a b =
    let same = tag_kind x.kind y.kind (sym a.kind ∙ b.kind) in
    sym a.numbers ∙ ap (λ (k : Kind). field_by k v) same ∙ b.numbers
