-- Laws of the tests 2 to 5: which of the answers they lead to.
use Rattle.std.specs.Prelude.{ℕ, ◌+◌, ◌≡◌, refl, List, [], ◌∷◌, Bool, true, false, eqb, length}
use Rattle.std.proofs.Common.{sym, ◌∙◌, arith, ne_eqb}
use Rattle.std.proofs.Math.Path.{ap}
use Rattle.std.proofs.Math.Option.{some, none}
use Rattle.plan.specs.Bytes.{head_size, tag_at, size_at, whole_at, value_at}
use Rattle.cqf.specs.Form.{Form, older, newer}
use Rattle.plan.specs.Layout.{Kind, layout, every_kind, kinds}
use Rattle.plan.specs.Field.{field, refused, field_by, size_ok, ranges_ok, value_in, kind_by, kind_read, field_in, field_at}

-- test 2
module _ (form : Form) (s : List ℕ) (at : ℕ) where
  pub field_cut : whole_at s at ≡ false → field_at form s at ≡ refused 2 at
  unfolding field_at
  field_cut e = rw e

  pub field_whole : whole_at s at ≡ true → field_at form s at ≡ field_in form (tag_at s at) (value_at s at) at (at + head_size + size_at s at)
  unfolding field_at
  field_whole e = rw e

-- test 3: each kind is found by its tag, and by no other
kind_found : (k : Kind) → kind_by every_kind (layout k).tag ≡ some k
unfolding kind_by
kind_found Kind.header = refl
kind_found Kind.port = refl
kind_found Kind.flow = refl
kind_found Kind.extra = refl
kind_found Kind.jitter = refl
kind_found Kind.clock = refl
kind_found Kind.header2 = refl
kind_found Kind.port2 = refl
kind_found Kind.flow2 = refl

-- so a tag is that of one kind
pub tag_kind : (j k : Kind) → (layout j).tag ≡ (layout k).tag → j ≡ k
tag_kind j k e =
    let same : some j ≡ some k = sym (kind_found j) ∙ ap (kind_by every_kind) e ∙ kind_found k in
    cc

-- a kind may stand in the plans of its form
of_form : (k : Kind) → kind_by (kinds (layout k).form) (layout k).tag ≡ some k
unfolding kind_by
of_form Kind.header = refl
of_form Kind.port = refl
of_form Kind.flow = refl
of_form Kind.extra = refl
of_form Kind.jitter = refl
of_form Kind.clock = refl
of_form Kind.header2 = refl
of_form Kind.port2 = refl
of_form Kind.flow2 = refl

-- and in no other
abbrev AllOf : Form → List Kind → Type 0
AllOf form [] = Unit {0}
AllOf form (k ∷ ks) = ((layout k).form ≡ form) × AllOf form ks

found_of : (form : Form) (ks : List Kind) (tag : ℕ) (k : Kind) → AllOf form ks → kind_by ks tag ≡ some k → (layout k).form ≡ form
unfolding kind_by
found_of form [] tag k of e = let z : ◌≡◌ {A = ℕ} 0 1 = cc in absurd (omega arith)
found_of form (m ∷ ms) tag k of e = go (found_of form ms tag k of.1) (eqb tag (layout m).tag) e
  where
    go
        : (kind_by ms tag ≡ some k → (layout k).form ≡ form)
        → (b : Bool)
        → elim b [ true ↦ some m | false ↦ kind_by ms tag ] ≡ some k
        → (layout k).form ≡ form
    go rest true e = let same : m ≡ k = cc in ap (λ (n : Kind). (layout n).form) (sym same) ∙ of.0
    go rest false e = rest e

pub kind_form : (form : Form) (tag : ℕ) (k : Kind) → kind_by (kinds form) tag ≡ some k → (layout k).form ≡ form
kind_form older tag k e = found_of older (kinds older) tag k (refl, (refl, (refl, (refl, (refl, (refl, tt)))))) e
kind_form newer tag k e = found_of newer (kinds newer) tag k (refl, (refl, (refl, tt))) e

-- a tag that none of these kinds has
abbrev pub NoneHas : ℕ → List Kind → Type 0
NoneHas tag [] = Unit {0}
NoneHas tag (k ∷ ks) = (tag ≡ (layout k).tag → ⊥) × NoneHas tag ks

none_found : (ks : List Kind) (tag : ℕ) → NoneHas tag ks → kind_by ks tag ≡ none
unfolding kind_by
none_found [] tag other = refl
none_found (k ∷ ks) tag other = rw (ne_eqb tag (layout k).tag other.0, kind_by) (none_found ks tag other.1)

module _ (v : List ℕ) (at next : ℕ) where
  pub tag_known : (k : Kind) (tag : ℕ) → tag ≡ (layout k).tag → field_in (layout k).form tag v at next ≡ value_in k v at next
  unfolding field_in
  tag_known k tag e =
      ap (λ (t : ℕ). kind_read (kind_by (kinds (layout k).form) t) v at next) e ∙ ap (λ o. kind_read o v at next) (of_form k)

  pub tag_unknown : (form : Form) (tag : ℕ) → NoneHas tag (kinds form) → field_in form tag v at next ≡ refused 3 at
  unfolding field_in
  tag_unknown form tag other = ap (λ o. kind_read o v at next) (none_found (kinds form) tag other)

  -- tests 4 and 5: a value of another length, with a number out of range, or with neither
  module _ (k : Kind) where
    pub value_length : size_ok k (length v) ≡ false → value_in k v at next ≡ refused 4 at
    unfolding value_in
    value_length e = rw e

    pub value_range : size_ok k (length v) ≡ true → ranges_ok k v ≡ false → value_in k v at next ≡ refused 5 at
    unfolding value_in
    value_range e f = rw (e, f)

    pub value_read : size_ok k (length v) ≡ true → ranges_ok k v ≡ true → value_in k v at next ≡ field (field_by k v) next
    unfolding value_in
    value_read e f = rw (e, f)
