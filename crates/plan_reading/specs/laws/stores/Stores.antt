-- Laws of a sublist of numbers that is stored into a table.
use Rattle.std.specs.Prelude.{◌≡◌, refl, ◌≢◌, ◌⊎◌, List, [], ◌∷◌, ℕ, zero, suc, ◌+◌, ◌≤◌, ◌<◌, length, get_or, set}
use Rattle.std.proofs.Common.{ap, ◌∙◌, inl, inr, arith, length-set, get_or-set_same, get_or-set_other}
use Rattle.std.proofs.lemmas.List.Edits.{sets}
use Rattle.std.proofs.lemmas.List.{set_comm}
use Rattle.cqf.specs.Bounded.{sublist}

-- position j lies outside the n positions from i on
abbrev pub Outside : ℕ → ℕ → ℕ → Type 0
Outside j i n = (j < i) ⊎ (i + n ≤ j)

-- one position fewer
outside_rest : {j : ℕ} (i n : ℕ) → Outside j i (suc n) → Outside j (suc i) n
outside_rest i n (inl l) = inl (omega arith)
outside_rest i n (inr l) = inr (omega arith)

outside_first : {j : ℕ} (i n : ℕ) → Outside j i (suc n) → j ≢ i
outside_first i n (inl l) = omega arith
outside_first i n (inr l) = omega arith

-- outside the sublist every number stays
pub sets_outside : (l : List ℕ) (i : ℕ) (vs : List ℕ) (j : ℕ) → Outside j i (length vs) → get_or (sets l i vs) j 0 ≡ get_or l j 0
sets_outside l i [] j o = refl
sets_outside l i (a ∷ vs) j o =
    sets_outside (set l i a) (suc i) vs j (outside_rest i (length vs) o)
    ∙ get_or-set_other l i j a 0 (outside_first i (length vs) o)

-- the sublist reads back
pub sublist_sets : (l : List ℕ) (i : ℕ) (vs : List ℕ) → i + length vs ≤ length l → sublist (sets l i vs) i (length vs) ≡ vs
unfolding sublist
sublist_sets l i [] h = refl
sublist_sets l i (a ∷ vs) h =
    let first : get_or (sets (set l i a) (suc i) vs) i 0 ≡ a =
    sets_outside (set l i a) (suc i) vs i (inl (omega arith)) ∙ get_or-set_same l i a 0 (omega arith) in
    let fits : suc i + length vs ≤ length (set l i a) = rw length-set (omega arith) in
    rw (first, sublist_sets (set l i a) (suc i) vs fits)

-- sublists that agree number by number are equal
pub sublist_same
    : (l m : List ℕ) (at h : ℕ)
    → ((k : ℕ) → at ≤ k → k < at + h → get_or l k 0 ≡ get_or m k 0)
    → sublist l at h ≡ sublist m at h
unfolding sublist
sublist_same l m at zero same = refl
sublist_same l m at (suc h) same =
    rw (same at (omega arith) (omega arith), sublist_same l m (suc at) h (λ k a b. same k (omega arith) (omega arith)))

-- a store outside the sublist comes before or after the sublist's
set_sets
    : (l : List ℕ) (j b i : ℕ) (vs : List ℕ)
    → Outside j i (length vs)
    → sets (set l j b) i vs ≡ set (sets l i vs) j b
set_sets l j b i [] o = refl
set_sets l j b i (a ∷ vs) o =
    ap (λ (m : List ℕ). sets m (suc i) vs) (set_comm l j i b a (outside_first i (length vs) o))
    ∙ set_sets (set l i a) j b (suc i) vs (outside_rest i (length vs) o)

-- two sublists that do not meet may be stored in either order
pub sets_comm
    : (l : List ℕ) (i : ℕ) (vs : List ℕ) (j : ℕ) (ws : List ℕ)
    → (i + length vs ≤ j) ⊎ (j + length ws ≤ i)
    → sets (sets l i vs) j ws ≡ sets (sets l j ws) i vs
sets_comm l i [] j ws o = refl
sets_comm l i (a ∷ vs) j ws o =
    sets_comm (set l i a) (suc i) vs j ws (rest o)
    ∙ ap (λ (m : List ℕ). sets m (suc i) vs) (set_sets l i a j ws (first o))
  where
    rest : (i + suc (length vs) ≤ j) ⊎ (j + length ws ≤ i) → (suc i + length vs ≤ j) ⊎ (j + length ws ≤ suc i)
    rest (inl h) = inl (omega arith)
    rest (inr h) = inr (omega arith)

    first : (i + suc (length vs) ≤ j) ⊎ (j + length ws ≤ i) → Outside i j (length ws)
    first (inl h) = inl (omega arith)
    first (inr h) = inr (omega arith)
