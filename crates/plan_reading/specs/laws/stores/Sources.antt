-- Where a number of the tables comes from: a row of parts into empty tables leaves only what one of them put there.
use Rattle.std.specs.Prelude.{ℕ, ◌+◌, ◌≤◌, ◌<◌, ◌≡◌, ◌⊎◌, length}
use Rattle.std.proofs.Math.Path.{refl}
use Rattle.std.proofs.Common.{sym, ◌∙◌, arith, get_or-set_other}
use Rattle.std.proofs.Math.Logic.{inl, inr}
use mathlib.Core.List.{List, [], ◌∷◌, Memᴰ}
use Rattle.std.proofs.Math.Option.{Option, some, none}
use Rattle.std.proofs.Math.Decide.{ℕ_discrete, dec_lt}
use Rattle.std.proofs.Math.ListN.{get_or}
use Rattle.cqf.specs.Plan.{Plan, no_plan}
use Rattle.plan_reading.specs.Put.{Put, keep, number, run, put, given}
use Rattle.plan_reading.specs.Store.{store, store_all}
use Rattle.plan_reading.specs.Part.{Part}
use Rattle.plan_reading.specs.laws.stores.Stores.{sets_outside}

-- what is put stands at position j
abbrev pub Touches : ℕ → Put → Type 0
Touches j keep = ⊥
Touches j (number i v) = i ≡ j
Touches j (run i vs) = (i ≤ j) × (j < i + length vs)

-- a number above 0 was there before, or what is put stands there
put_source : (l : List ℕ) (u : Put) (j : ℕ) → 0 < get_or (put l u) j 0 → (0 < get_or l j 0) ⊎ Touches j u
put_source l keep j h = inl h
put_source l (number i v) j h = go (ℕ_discrete j i)
  where
    go : Dec (j ≡ i) → (0 < get_or l j 0) ⊎ (i ≡ j)
    go (yes same) = inr (sym same)
    go (no apart) = inl (omega (arith, get_or-set_other l i j v 0 apart))
put_source l (run i vs) j h = go (dec_lt j i) (dec_lt j (i + length vs))
  where
    go : Dec (j < i) → Dec (j < i + length vs) → (0 < get_or l j 0) ⊎ ((i ≤ j) × (j < i + length vs))
    go (yes less) k = inl (omega (arith, sets_outside l i vs j (inl less)))
    go (no more) (yes less) = inr (omega arith, less)
    go (no more) (no past) = inl (omega (arith, sets_outside l i vs j (inr (omega arith))))

-- a part of the row of which this holds
abbrev pub Some : (Part → Type 0) → List Part → Type 0
Some P xs = (x : Part) × Memᴰ x xs × P x

some_more : {P : Part → Type 0} {y : Part} {xs : List Part} → Some P xs → Some P (y ∷ xs)
some_more t = (t.0, Memᴰ.tail t.1, t.2)

-- a column of the tables, empty at first, and what a part puts into it
pub record Column (column : Plan → List ℕ) (puts : Part → Put) : Type 0 where
  pub stores : (p : Plan) (x : Part) → column (store p x) ≡ put (column p) (puts x)
  pub empty : (j : ℕ) → get_or (column no_plan) j 0 ≡ 0

-- the tables that a row of parts leaves
abbrev pub tables_of : List Part → Plan
tables_of xs = store_all no_plan xs

module _ {column : Plan → List ℕ} {puts : Part → Put} (c : Column column puts) where
  -- the same of a whole row, in one column
  row_source
      : (p : Plan) (xs : List Part) (j : ℕ)
      → 0 < get_or (column (store_all p xs)) j 0
      → (0 < get_or (column p) j 0) ⊎ Some (λ x. Touches j (puts x)) xs
  unfolding store_all
  row_source p [] j h = inl h
  row_source p (x ∷ xs) j h = after (row_source (store p x) xs j h)
    where
      own : (0 < get_or (column p) j 0) ⊎ Touches j (puts x) → (0 < get_or (column p) j 0) ⊎ Some (λ x. Touches j (puts x)) (x ∷ xs)
      own (inl k) = inl k
      own (inr t) = inr (x, Memᴰ.head refl, t)

      after
          : (0 < get_or (column (store p x)) j 0) ⊎ Some (λ x. Touches j (puts x)) xs
          → (0 < get_or (column p) j 0) ⊎ Some (λ x. Touches j (puts x)) (x ∷ xs)
      after (inl k) = own (put_source (column p) (puts x) j (rw (c.stores p x) at k))
      after (inr t) = inr (some_more t)

  pub source : (xs : List Part) (j : ℕ) → 0 < get_or (column (tables_of xs)) j 0 → Some (λ x. Touches j (puts x)) xs
  source xs j h = go (row_source no_plan xs j h)
    where
      go : (0 < get_or (column no_plan) j 0) ⊎ Some (λ x. Touches j (puts x)) xs → Some (λ x. Touches j (puts x)) xs
      go (inl k) = absurd (omega (arith, c.empty j))
      go (inr t) = t

-- and of what stands alone
pub alone_source
    : {A : Type 0} (alone : Plan → A) (gives : Part → Option A)
    → ((p : Plan) (x : Part) → alone (store p x) ≡ given (alone p) (gives x))
    → (p : Plan) (xs : List Part)
    → (alone (store_all p xs) ≡ alone p) ⊎ Some (λ x. (a : A) × (gives x ≡ some a)) xs
unfolding store_all
alone_source alone gives law p [] = inl refl
alone_source {A} alone gives law p (x ∷ xs) = after (alone_source alone gives law (store p x) xs)
  where
    own
        : (u : Option A)
        → gives x ≡ u
        → alone (store_all (store p x) xs) ≡ given (alone p) u
        → (alone (store_all (store p x) xs) ≡ alone p) ⊎ Some (λ x. (a : A) × (gives x ≡ some a)) (x ∷ xs)
    own none g k = inl k
    own (some a) g k = inr (x, Memᴰ.head refl, (a, g))

    after
        : (alone (store_all (store p x) xs) ≡ alone (store p x)) ⊎ Some (λ x. (a : A) × (gives x ≡ some a)) xs
        → (alone (store_all (store p x) xs) ≡ alone p) ⊎ Some (λ x. (a : A) × (gives x ≡ some a)) (x ∷ xs)
    after (inl k) = own (gives x) refl (k ∙ law p x)
    after (inr t) = inr (some_more t)
