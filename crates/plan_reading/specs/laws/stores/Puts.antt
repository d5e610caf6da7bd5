-- Laws of what is put into a column: it keeps the column's length, and two puts that their keys fix stand in either order.
use Rattle.std.specs.Prelude.{ℕ, suc, ◌+◌, ◌-◌, ◌*◌, ◌≤◌, ◌<◌, ◌≡◌, refl, ◌≢◌, ◌⊎◌, List, [], ◌∷◌, length}
use Rattle.std.proofs.Common.{sym, ◌∙◌, inl, inr, suc-mul, mul-le-mul_right, arith, length-set}
use Rattle.std.proofs.Math.Option.{Option, some, none}
use Rattle.std.proofs.Math.Decide.{dec_lt}
use Rattle.std.proofs.lemmas.List.Edits.{sets}
use Rattle.std.proofs.Math.Seq.{length-sets}
use Rattle.plan_reading.specs.Put.{Put, keep, number, run, put, given}
use Rattle.plan_reading.specs.laws.stores.Stores.{sets_comm}

pub put_length : (l : List ℕ) (u : Put) → length (put l u) ≡ length l
put_length l keep = refl
put_length l (number i v) = length-set l i v
put_length l (run i vs) = length-sets l i vs

-- n numbers from position i on stand in the block of the key: one block of this width for each key, from the first key on
pub record Block (first width key i n : ℕ) : Type 0 where
  pub owned : first ≤ key
  pub here : i ≡ (key - first) * width
  pub fits : n ≤ width

abbrev pub Placed : (first width key : ℕ) → Put → Type 0
Placed first width key keep = Unit {0}
Placed first width key (number i v) = Block first width key i 1
Placed first width key (run i vs) = Block first width key i (length vs)

-- blocks of two keys do not meet
before : (width i j n : ℕ) → n ≤ width → i < j → i * width + n ≤ j * width
before width i j n fits less = omega (arith, suc-mul i width, mul-le-mul_right {m = suc i} {n = j} width less)

module _ (first width k m : ℕ) (differ : k ≢ m) where
  runs_comm
      : (l : List ℕ) (i : ℕ) (vs : List ℕ) (j : ℕ) (ws : List ℕ)
      → Block first width k i (length vs)
      → Block first width m j (length ws)
      → sets (sets l i vs) j ws ≡ sets (sets l j ws) i vs
  runs_comm l i vs j ws a b = sets_comm l i vs j ws (go (dec_lt (k - first) (m - first)))
    where
      apart : (k - first) ≢ (m - first)
      apart e = differ (omega (arith, a.owned, b.owned))

      go : Dec (k - first < m - first) → (i + length vs ≤ j) ⊎ (j + length ws ≤ i)
      go (yes less) = inl (omega (arith, a.here, b.here, before width (k - first) (m - first) (length vs) a.fits less))
      go (no more) =
          let less : m - first < k - first = omega arith in
          inr (omega (arith, a.here, b.here, before width (m - first) (k - first) (length ws) b.fits less))

  -- what two keys put into a column stands in either order
  pub put_comm
      : (l : List ℕ) (u w : Put)
      → Placed first width k u
      → Placed first width m w
      → put (put l u) w ≡ put (put l w) u
  put_comm l keep w a b = refl
  put_comm l (number i v) keep a b = refl
  put_comm l (number i v) (number j z) a b = runs_comm l i (v ∷ []) j (z ∷ []) a b
  put_comm l (number i v) (run j ws) a b = runs_comm l i (v ∷ []) j ws a b
  put_comm l (run i vs) keep a b = refl
  put_comm l (run i vs) (number j z) a b = runs_comm l i vs j (z ∷ []) a b
  put_comm l (run i vs) (run j ws) a b = runs_comm l i vs j ws a b

-- what only one key gives
abbrev pub Owned : {A : Type 0} (owner key : ℕ) → Option A → Type 0
Owned owner key none = Unit {0}
Owned owner key (some b) = key ≡ owner

pub given_comm
    : {A : Type 0} (owner k m : ℕ)
    → k ≢ m
    → (a : A) (u w : Option A)
    → Owned owner k u
    → Owned owner m w
    → given (given a u) w ≡ given (given a w) u
given_comm owner k m differ a none w p q = refl
given_comm owner k m differ a (some b) none p q = refl
given_comm owner k m differ a (some b) (some c) p q = absurd (differ (p ∙ sym q))
