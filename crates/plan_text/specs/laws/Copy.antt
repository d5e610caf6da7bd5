-- Laws of a run of stores, for a loop that makes it one by one.
use Rattle.std.specs.Prelude.{ℕ, suc, ◌+◌, ◌<◌, ◌≡◌, List, [], ◌∷◌, ◌++◌, length, get_or, set, take}
use Rattle.std.proofs.Common.{ap, ◌∙◌, add-one, arith, take-suc, length-take-le}
use Rattle.std.proofs.lemmas.List.Edits.{sets}

-- one more number at the end is one more store, after the others
sets_snoc : (vs : List ℕ) (l : List ℕ) (at a : ℕ) → sets l at (vs ++ (a ∷ [])) ≡ set (sets l at vs) (at + length vs) a
sets_snoc [] l at a = ap (λ (k : ℕ). set l k a) (omega arith)
sets_snoc (v ∷ vs) l at a = sets_snoc vs (set l at v) (suc at) a ∙ ap (λ (k : ℕ). set (sets (set l at v) (suc at) vs) k a) (omega arith)

-- a store of number i of the list, after those before it
pub sets_take : (l : List ℕ) (at : ℕ) (vs : List ℕ) (i : ℕ) → i < length vs → sets l at (take (i + 1) vs) ≡ set (sets l at (take i vs)) (at + i) (get_or vs i 0)
sets_take l at vs i h =
    rw (add-one i, take-suc vs i 0 h, sets_snoc (take i vs) l at (get_or vs i 0))
    (ap (λ (k : ℕ). set (sets l at (take i vs)) (at + k) (get_or vs i 0)) (length-take-le i vs (omega arith)))
