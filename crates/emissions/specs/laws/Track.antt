-- Where a frame alone is queued; and laws of sums, counts and searches that the run of the bad emission rests on.
use Rattle.std.specs.Prelude.{◌≡◌, refl, Bool, true, false, cond, ◌&&◌, List, [], ◌∷◌, ℕ, zero, suc, ◌+◌, ◌-◌, ◌≤◌, ◌<◌, length, get_or, eqb, ltb}
use Rattle.std.proofs.Common.{sym, ap, ◌∙◌, le_antisymm, le_of_eq, arith, eq-eqb, eqb-true, lt-ltb, ltb-true}
use Rattle.std.proofs.lemmas.Bool.{false≢true}
use Rattle.std.proofs.Math.Bool.{and-eq-true_iff}
use Rattle.std.proofs.Math.Decide.{dec_lt}
use Rattle.cqf.specs.Bounded.{sum_to, count_to, lowest}
use Rattle.cqf.specs.Run.{is_queued_at}
use Rattle.cqf.proofs.laws.Bounded.{sum_to_le, count_to_all, count_to_none, lowest_le, lowest_below}
use Rattle.cqf.proofs.laws.Places.{track, track_queued, queued_track}

-- tests that say the same
same_test : (a b : Bool) → (a ≡ true → b ≡ true) → (b ≡ true → a ≡ true) → a ≡ b
same_test true b to back = sym (to refl)
same_test false true to back = back refl
same_test false false to back = refl

-- a number of a list is 0 past its end
pub within_list : (l : List ℕ) (i n : ℕ) → get_or l i 0 ≡ suc n → i < length l
within_list [] zero n e = absurd (omega arith)
within_list [] (suc i) n e = absurd (omega arith)
within_list (x ∷ xs) zero n e = omega arith
within_list (x ∷ xs) (suc i) n e = omega (arith, within_list xs i n e)

-- a test that says the same of each of n numbers counts all or none
pub count_same : (n : ℕ) (b : ℕ → Bool) (x : Bool) → ((i : ℕ) → i < n → b i ≡ x) → count_to n b ≡ cond x n 0
count_same n b true each = count_to_all n b each
count_same n b false each = count_to_none n b each

-- sums of the same terms
pub sum_same : (n : ℕ) (g h : ℕ → ℕ) → ((i : ℕ) → g i ≡ h i) → sum_to n g ≡ sum_to n h
sum_same n g h each =
    le_antisymm (sum_to_le n g h (λ i _. le_of_eq (each i))) (sum_to_le n h g (λ i _. le_of_eq (sym (each i))))

-- the lowest that passes is below the bound where one passes
pub lowest-within : (n : ℕ) (b : ℕ → Bool) (i : ℕ) → i < n → b i ≡ true → lowest n b < n
lowest-within n b i l e = go (dec_lt (lowest n b) n)
  where
    go : Dec (lowest n b < n) → lowest n b < n
    go (yes m) = m
    go (no over) = absurd (false≢true (sym (lowest_below n b i (omega arith)) ∙ e))

pub lowest_last : (n : ℕ) (b : ℕ → Bool) → (lowest n b < n → ⊥) → lowest n b ≡ n
lowest_last n b no_lower = omega (arith, lowest_le n b)

-- early by as many cycles as the port is late
pub in_time : (latest late own : ℕ) → own ≡ latest - late → late ≤ latest → (own < suc latest) × (suc latest - suc own ≡ late)
in_time latest late own e l = (omega arith, omega arith)

-- a frame alone is queued at port n in cycle c exactly where it stands there on its route
pub track-at
    : (own : ℕ) (route : List ℕ) (c r : ℕ)
    → is_queued_at (suc r) (track own route c) ≡ ltb own c && eqb (get_or route (c - suc own) 0) (suc r)
track-at own route c r = same_test _ _ to back
  where
    to : is_queued_at (suc r) (track own route c) ≡ true → ltb own c && eqb (get_or route (c - suc own) 0) (suc r) ≡ true
    to h =
        let t = track_queued (suc r) own route c h in
        let i : c - suc own ≡ t.0 = omega (arith, t.3) in
        (and-eq-true_iff _ _).1 (lt-ltb own c (omega (arith, t.3)), eq-eqb _ _ (ap (λ (j : ℕ). get_or route j 0) i ∙ t.2))

    back : ltb own c && eqb (get_or route (c - suc own) 0) (suc r) ≡ true → is_queued_at (suc r) (track own route c) ≡ true
    back h =
        let b = (and-eq-true_iff (ltb own c) (eqb (get_or route (c - suc own) 0) (suc r))).0 h in
        let at = eqb-true _ _ b.1 in
        let l = ltb-true own c b.0 in
        let e : c ≡ suc (own + (c - suc own)) = omega arith in
        ap (λ (d : ℕ). is_queued_at (suc r) (track own route d)) e
        ∙ ap (λ (n : ℕ). is_queued_at n (track own route (suc (own + (c - suc own))))) (sym at)
        ∙ queued_track own route (c - suc own) (within_list route (c - suc own) r at)
