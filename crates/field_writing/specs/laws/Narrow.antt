-- A number that is too wide for its 2 bytes may be written as the widest: either is out of range, and nothing else differs.
use Rattle.std.specs.Prelude.{ℕ, ◌+◌, ◌*◌, ◌≤◌, ◌≡◌, refl, ◌⊎◌, List, [], ◌∷◌, Bool, true, false, cond, ◌&&◌, leb, length}
use Rattle.std.proofs.Common.{sym, ap, ap₂, ◌∙◌, subst, inl, inr, true≢false, arith, leb-false, ne_eqb}
use Rattle.std.proofs.Math.Bool.{and-false, and-eq-true_iff}
use Rattle.std.proofs.lemmas.Bool.{lt-leb}
use Rattle.answers.specs.Answer.{Answer}
use Rattle.answers.specs.Refusals.{wrong_length, out_of_range}
use Rattle.cqf.specs.Bounded.{within}
use Rattle.cqf.specs.Limits.{port_ok, length_ok, blocking_ok, extra_ok, flow_ok, count_ok}
use Rattle.plan.specs.Layout.{Number, Kind, layout, numbers_size}
use Rattle.plan.specs.Field.{refused, in_ranges, size_ok, value_in, field_at}
use Rattle.writing.specs.Fields.{routed_bytes}
use Rattle.field_writing.specs.Narrow.{widest, narrowed}
use Rattle.field_writing.specs.Writes.{Writes}
use Rattle.field_writing.specs.laws.Back.{field_back, length_back, value_numbers}
use Rattle.field_writing.specs.laws.Whole.{refused_writes}

-- a range that ends before the widest number of 2 bytes
abbrev Short : (ℕ → Bool) → Type 0
Short ok = (n : ℕ) → widest ≤ n → ok n ≡ false

-- the same number, or another that is out of range too
abbrev pub Stands : (ℕ → Bool) → ℕ → ℕ → Type 0
Stands ok n m = (m ≡ n) ⊎ ((ok n ≡ false) × (ok m ≡ false))

pub narrowed_stands : (ok : ℕ → Bool) → Short ok → (n : ℕ) {m : ℕ} → m ≡ narrowed n → Stands ok n m
narrowed_stands ok short n {m} e = go (leb n widest) refl
  where
    go : (b : Bool) → leb n widest ≡ b → Stands ok n m
    go true l = inl (e ∙ rw l refl)
    go false l =
        let high = leb-false n widest l in
        let is : m ≡ widest = e ∙ rw l refl in
        inr (short n (omega arith), short m (omega arith))

pub data StandFor : List Number → List ℕ → List ℕ → Type 0 where
  none : StandFor [] [] []
  more : {c : Number} {cs : List Number} {n m : ℕ} {ns ms : List ℕ} → Stands c.ok n m → StandFor cs ns ms → StandFor (c ∷ cs) (n ∷ ns) (m ∷ ms)

-- as many as a row of the table has
stand_length : {cs : List Number} {ns ms : List ℕ} → StandFor cs ns ms → (length ns ≡ length cs) × (length ms ≡ length cs)
stand_length none = (refl, refl)
stand_length (more h hs) = let l = stand_length hs in (omega (arith, l.0), omega (arith, l.1))

-- either are in range or neither, and those that are are the same
one_range : (ok : ℕ → Bool) {n m : ℕ} → Stands ok n m → ok m ≡ ok n
one_range ok (inl e) = ap ok e
one_range ok (inr out) = out.1 ∙ sym out.0

one_same : (ok : ℕ → Bool) {n m : ℕ} → Stands ok n m → ok n ≡ true → m ≡ n
one_same ok (inl e) is = e
one_same ok (inr out) is = absurd (true≢false (sym is ∙ out.0))

stand_ranges : {cs : List Number} {ns ms : List ℕ} → StandFor cs ns ms → in_ranges cs ms ≡ in_ranges cs ns
stand_ranges none = refl
stand_ranges (more {c = c} h hs) = ap₂ ◌&&◌ (one_range c.ok h) (stand_ranges hs)

stand_same : {cs : List Number} {ns ms : List ℕ} → StandFor cs ns ms → in_ranges cs ns ≡ true → ms ≡ ns
stand_same none ok = refl
stand_same (more {c = c} {n = n} h hs) ok =
    let both = (and-eq-true_iff (c.ok n) _).0 ok in
    ap₂ ◌∷◌ (one_same c.ok h both.0) (stand_same hs both.1)

-- a field with a number out of range is refused by its length, or else for that number
out_refused
    : (k : Kind) (ns r : List ℕ)
    → length ns ≡ length (layout k).numbers
    → in_ranges (layout k).numbers ns ≡ false
    → field_at (layout k).form (routed_bytes k ns r) 0 ≡ refused (cond (size_ok k (numbers_size k + 2 * length r)) out_of_range wrong_length) 0
unfolding value_in
out_refused k ns r many out =
    field_back k ns r many ∙ rw (length_back k ns r many, value_numbers k ns r many, out) (go (size_ok k (numbers_size k + 2 * length r)))
  where
    go : (b : Bool) → cond b (refused out_of_range 0) (refused wrong_length 0) ≡ refused (cond b out_of_range wrong_length) 0
    go true = refl
    go false = refl

-- so a field is written, or refused, as the one with the numbers that stand for its own
pub narrow_writes
    : (k : Kind) (ns ms r buffer : List ℕ) {answer : Answer ℕ} {exit : List ℕ}
    → StandFor (layout k).numbers ns ms
    → Writes k ms r buffer answer exit
    → Writes k ns r buffer answer exit
narrow_writes k ns ms r buffer {answer} {exit} h w = go (in_ranges (layout k).numbers ns) refl
  where
    go : (b : Bool) → in_ranges (layout k).numbers ns ≡ b → Writes k ns r buffer answer exit
    go true ok = subst (λ (l : List ℕ). Writes k l r buffer answer exit) (stand_same h ok) w
    go false out =
        let form = (layout k).form in
        let mine = refused_writes form (routed_bytes k ns r) buffer _ 0 (out_refused k ns r (stand_length h).0 out) in
        let other = refused_writes form (routed_bytes k ms r) buffer _ 0 (out_refused k ms r (stand_length h).1 (stand_ranges h ∙ out)) in
        (w.0 ∙ sym other.0 ∙ mine.0, w.1 ∙ sym other.1 ∙ mine.1)

-- the numbers of 2 bytes: no range reaches the widest
module _ (n : ℕ) (high : widest ≤ n) where
  past : (lo hi : ℕ) → hi ≤ 65534 → within lo hi n ≡ false
  past lo hi low = rw (lt-leb n hi (omega arith)) (and-false (leb lo n))

  pub port_short : port_ok n ≡ false
  port_short = past 1 64 (omega arith)

  pub flow_short : flow_ok n ≡ false
  flow_short = past 1 256 (omega arith)

  pub count_short : count_ok n ≡ false
  count_short = past 1 64 (omega arith)

  pub length_short : length_ok n ≡ false
  length_short = past 64 2000 (omega arith)

  pub extra_short : extra_ok n ≡ false
  extra_short = past 0 64 (omega arith)

  pub blocking_short : blocking_ok n ≡ false
  blocking_short = rw (ne_eqb n 0 (λ e. omega arith)) length_short
