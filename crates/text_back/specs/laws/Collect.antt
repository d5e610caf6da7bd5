-- Laws of parts that are collected slot by slot: what holds of each, and that none has the key of another.
use Rattle.std.specs.Prelude.{ℕ, zero, suc, ◌<◌, ◌≡◌, refl, ◌≢◌, Bool, true, false, cond, List, [], ◌∷◌, ◌++◌}
use Rattle.std.proofs.Common.{arith}
use Rattle.plan_reading.specs.Part.{Part}
use Rattle.plan_reading.specs.Saved.{collect}
use Rattle.plan_reading.specs.laws.fields.Ranged.{All, all_append, all_map}
use Rattle.plan_reading.specs.laws.fields.ByPart.{part_key, Apart, Separate}

-- two parts, or none
abbrev pub pair : Bool → Part → Part → List Part
pair test x y = cond test (x ∷ y ∷ []) []

pub pair_all : (P : Part → Type 0) (test : Bool) (x y : Part) → (test ≡ true → P x × P y) → All P (pair test x y)
pair_all P true x y each = let t = each refl in (t.0, (t.1, tt))
pair_all P false x y each = tt

pub pair_separate : (test : Bool) (x y : Part) → part_key x ≢ part_key y → Separate (pair test x y)
pair_separate true x y apart = ((apart, tt), (tt, tt))
pair_separate false x y apart = tt

pub collect_all : (P : Part → Type 0) (n : ℕ) (at : ℕ → List Part) → ((i : ℕ) → i < n → All P (at i)) → All P (collect n at)
unfolding collect
collect_all P zero at each = tt
collect_all P (suc n) at each = all_append P (collect n at) (at n) (collect_all P n at (λ i l. each i (omega arith))) (each n (omega arith))

-- parts of two kinds of keys
pub apart_all
    : (P Q : Part → Type 0)
    → ((x y : Part) → P x → Q y → part_key x ≢ part_key y)
    → (xs ys : List Part)
    → All P xs
    → All Q ys
    → All (λ x. Apart x ys) xs
apart_all P Q apart xs ys a b = all_map P (λ x. Apart x ys) xs (λ x k. all_map Q (λ y. part_key x ≢ part_key y) ys (λ y. apart x y k) b) a

pub separate_append : (xs ys : List Part) → Separate xs → Separate ys → All (λ x. Apart x ys) xs → Separate (xs ++ ys)
separate_append [] ys a b c = b
separate_append (x ∷ xs) ys a b c =
    (all_append (λ y. part_key x ≢ part_key y) xs ys a.0 c.0, separate_append xs ys a.1 b c.1)

-- where the keys of each slot are its own
pub collect_separate
    : (P : ℕ → Part → Type 0)
    → ((i j : ℕ) (x y : Part) → i < j → P i x → P j y → part_key x ≢ part_key y)
    → (n : ℕ) (at : ℕ → List Part)
    → ((i : ℕ) → i < n → Separate (at i) × All (P i) (at i))
    → Separate (collect n at)
unfolding collect
collect_separate P apart zero at each = tt
collect_separate P apart (suc n) at each =
    separate_append (collect n at) (at n) (collect_separate P apart n at (λ i l. each i (omega arith))) (each n (omega arith)).0
    (collect_all (λ x. Apart x (at n)) n at (λ i l. apart_all (P i) (P n) (λ x y. apart i n x y l) (at i) (at n) (each i (omega arith)).1 (each n (omega arith)).1))
