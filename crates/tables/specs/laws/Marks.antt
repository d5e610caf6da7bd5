-- Laws of a table of numbers, one for each port, that is marked port by port of a route.
use Rattle.std.specs.Prelude.{◌≡◌, refl, Bool, true, false, cond, ◌||◌, List, [], ◌∷◌, ◌++◌, ℕ, suc, ◌+◌, ◌-◌, ◌≤◌, ◌<◌, length, get_or, set, eqb}
use Rattle.std.proofs.Common.{sym, ap, ◌∙◌, add-zero, zero-add, add-one, arith, get_or-set_same, get_or-set_other, eq-eqb, ne_eqb}
use Rattle.std.proofs.Math.Bool.{or-false}
use Rattle.std.proofs.Math.Decide.{ℕ_discrete}
use Rattle.cqf.specs.Bounded.{elem, sublist}
use Rattle.cqf.specs.Limits.{port_slots}
use Rattle.cqf.proofs.laws.Route.{sublist_more, elem_more}
use Rattle.tables.specs.Columns.{Marked}

-- nothing is marked for a route of no port
pub mark_none : (l : List ℕ) (v : ℕ → ℕ) → Marked l l [] v
unfolding elem
mark_none l v q h = sym (add-zero (get_or l q 0))

-- one more port is marked by setting its number
mark
    : (l₀ l r : List ℕ) (n : ℕ) (v : ℕ → ℕ) (w : ℕ)
    → Marked l₀ l r v
    → 0 < n
    → n ≤ length l
    → elem n r ≡ false
    → w ≡ get_or l₀ (n - 1) 0 + v (n - 1)
    → Marked l₀ (set l (n - 1) w) (r ++ (n ∷ [])) v
mark l₀ l r n v w before some fits new is q h = rw (elem_more (suc q) r n) (go (ℕ_discrete q (n - 1)))
  where
    go : Dec (q ≡ n - 1) → get_or (set l (n - 1) w) q 0 ≡ get_or l₀ q 0 + cond (elem (suc q) r || eqb (suc q) n) (v q) 0
    go (yes e) =
        let s : suc q ≡ n = omega arith in
        rw (s, new, eq-eqb n n refl, e) (get_or-set_same l (n - 1) w 0 (omega arith) ∙ is)
    go (no ne) =
        let s : suc q ≡ n → ⊥ = λ k. ne (omega arith) in
        rw (ne_eqb (suc q) n s, or-false) (get_or-set_other l (n - 1) q w 0 ne ∙ before q h)

-- the same of the port at i of a sublist
pub mark_next
    : (l₀ l routes : List ℕ) (base i : ℕ) (v : ℕ → ℕ) (w : ℕ)
    → Marked l₀ l (sublist routes base i) v
    → 0 < get_or routes (base + i) 0
    → get_or routes (base + i) 0 ≤ length l
    → elem (get_or routes (base + i) 0) (sublist routes base i) ≡ false
    → w ≡ get_or l₀ (get_or routes (base + i) 0 - 1) 0 + v (get_or routes (base + i) 0 - 1)
    → Marked l₀ (set l (get_or routes (base + i) 0 - 1) w) (sublist routes base (i + 1)) v
mark_next l₀ l routes base i v w before some fits new is =
    rw (add-one i, sublist_more routes base i)
    (mark l₀ l (sublist routes base i) (get_or routes (base + i) 0) v w before some fits new is)

-- a port that is not on the route has what it had
pub unmarked
    : (l₀ l r : List ℕ) (n : ℕ) (v : ℕ → ℕ)
    → Marked l₀ l r v
    → 0 < n
    → n ≤ port_slots
    → elem n r ≡ false
    → get_or l (n - 1) 0 ≡ get_or l₀ (n - 1) 0
unmarked l₀ l r n v marked some fits new =
    let s : suc (n - 1) ≡ n = omega arith in
    marked (n - 1) (omega arith) ∙ (rw (s, new) (add-zero (get_or l₀ (n - 1) 0)))

-- whether a port of number n is marked, where each port of r has 1 and every other 0
module _ (l r : List ℕ) (n : ℕ) (marked : Marked [] l r (λ _. 1)) (some : 0 < n) (fits : n ≤ port_slots) where
  marked-at : get_or l (n - 1) 0 ≡ cond (elem n r) 1 0
  marked-at =
      let s : suc (n - 1) ≡ n = omega arith in
      marked (n - 1) (omega arith) ∙ ap (λ (k : ℕ). 0 + cond (elem k r) 1 0) s ∙ zero-add (cond (elem n r) 1 0)

  pub marked_new : get_or l (n - 1) 0 ≡ 0 → elem n r ≡ false
  marked_new e = go (elem n r) (sym marked-at ∙ e)
    where
      go : (x : Bool) → ◌≡◌ {A = ℕ} (cond x 1 0) 0 → x ≡ false
      go true h = absurd (omega arith)
      go false h = refl

  pub marked_again : (get_or l (n - 1) 0 ≡ 0 → ⊥) → elem n r ≡ true
  marked_again ne = go (elem n r) (λ e. ne (marked-at ∙ e))
    where
      go : (x : Bool) → (◌≡◌ {A = ℕ} (cond x 1 0) 0 → ⊥) → x ≡ true
      go true h = refl
      go false h = absurd (h refl)
