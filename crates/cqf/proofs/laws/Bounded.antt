-- Laws of sums, counts, tests and searches over the numbers below a bound.
use Rattle.std.specs.Prelude.{◌≡◌, refl, Bool, true, false, cond, ◌||◌, ℕ, zero, suc, ◌≤◌, ◌<◌}
use Rattle.std.proofs.lemmas.Bool.{false≢true}
use Rattle.std.proofs.Math.Bool.{or-true, and-eq-true_iff}
use Rattle.std.proofs.Common.{zero-le, not-suc-le-zero, arith}
use Rattle.std.proofs.Math.Decide.{dec_lt, ℕ_discrete}
use Rattle.cqf.specs.Bounded.{sum_to, count_to, any_to, all_to, lowest}

-- a disjunction that holds, by the part that does
pub or_cases : {C : Type 0} (a b : Bool) → a || b ≡ true → (a ≡ true → C) → (b ≡ true → C) → C
or_cases true b e left right = left refl
or_cases false b e left right = right e

-- a number that stands only where a test holds
pub cond_some : (x : Bool) (n : ℕ) → 0 < cond x n 0 → x ≡ true
cond_some true n h = refl
cond_some false n h = absurd (not-suc-le-zero h)

-- a property of the numbers below n + 1: of those below n, and of n
below : (P : ℕ → Type 0) (n : ℕ) → ((i : ℕ) → i < n → P i) → P n → (i : ℕ) → i < suc n → P i
below P n h last i l = go (ℕ_discrete i n)
  where
    go : Dec (i ≡ n) → P i
    go (yes e) = rw e last
    go (no ne) = h i (omega arith)

-- a sum of larger terms is larger
pub sum_to_le : (n : ℕ) (g h : ℕ → ℕ) → ((i : ℕ) → i < n → g i ≤ h i) → sum_to n g ≤ sum_to n h
unfolding sum_to
sum_to_le zero g h le = zero-le
sum_to_le (suc n) g h le = omega (arith, sum_to_le n g h (λ i l. le i (omega arith)), le n (omega arith))

-- where each term is at most another, and the sums are not, the terms are the same
pub sum_to_equal
    : (n : ℕ) (g h : ℕ → ℕ)
    → ((i : ℕ) → i < n → g i ≤ h i)
    → sum_to n h ≤ sum_to n g
    → (i : ℕ)
    → i < n
    → g i ≡ h i
unfolding sum_to
sum_to_equal zero g h le most i l = absurd (not-suc-le-zero l)
sum_to_equal (suc n) g h le most i l =
    let last = le n (omega arith) in
    let sums = sum_to_le n g h (λ i l. le i (omega arith)) in
    below (λ i. g i ≡ h i) n (sum_to_equal n g h (λ i l. le i (omega arith)) (omega arith)) (omega arith) i l

-- a sum is at least each of its terms
pub sum_to_term : (n : ℕ) (g : ℕ → ℕ) (i : ℕ) → i < n → g i ≤ sum_to n g
unfolding sum_to
sum_to_term zero g i l = omega arith
sum_to_term (suc n) g i l = below (λ i. g i ≤ sum_to (suc n) g) n (λ i l. omega (arith, sum_to_term n g i l)) (omega arith) i l

-- a sum above 0 has a term above 0
pub sum_to_pos : (n : ℕ) (g : ℕ → ℕ) → 0 < sum_to n g → (i : ℕ) × (i < n) × (0 < g i)
unfolding sum_to
sum_to_pos zero g h = absurd (not-suc-le-zero h)
sum_to_pos (suc n) g h = go (sum_to_pos n g) (dec_lt 0 (sum_to n g))
  where
    go : (0 < sum_to n g → (i : ℕ) × (i < n) × (0 < g i)) → Dec (0 < sum_to n g) → (i : ℕ) × (i < suc n) × (0 < g i)
    go r (yes l) = ((r l).0, omega (arith, (r l).1), (r l).2)
    go r (no nl) = (n, omega arith, omega arith)

-- a weaker test counts more
pub count_to_le : (n : ℕ) (b d : ℕ → Bool) → ((i : ℕ) → i < n → b i ≡ true → d i ≡ true) → count_to n b ≤ count_to n d
unfolding count_to
count_to_le zero b d h = zero-le
count_to_le (suc n) b d h = omega (arith, count_to_le n b d (λ i l. h i (omega arith)), last (b n) (d n) (h n (omega arith)))
  where
    last : (x y : Bool) → (x ≡ true → y ≡ true) → cond x 1 0 ≤ cond y 1 0
    last true y f = rw (f refl) (omega arith)
    last false y f = zero-le

-- a test that all pass counts all
pub count_to_all : (n : ℕ) (b : ℕ → Bool) → ((i : ℕ) → i < n → b i ≡ true) → count_to n b ≡ n
unfolding count_to
count_to_all zero b h = refl
count_to_all (suc n) b h = rw (h n (omega arith)) (omega (arith, count_to_all n b (λ i l. h i (omega arith))))

-- a test that none passes counts none, and the other way round
pub count_to_none : (n : ℕ) (b : ℕ → Bool) → ((i : ℕ) → i < n → b i ≡ false) → count_to n b ≡ 0
unfolding count_to
count_to_none zero b h = refl
count_to_none (suc n) b h = rw (h n (omega arith)) (omega (arith, count_to_none n b (λ i l. h i (omega arith))))

pub count_to_zero : (n : ℕ) (b : ℕ → Bool) → count_to n b ≡ 0 → (i : ℕ) → i < n → b i ≡ false
unfolding count_to
count_to_zero zero b e i l = absurd (not-suc-le-zero l)
count_to_zero (suc n) b e i l =
    below (λ i. b i ≡ false) n (count_to_zero n b (omega arith)) (last (b n) (omega arith)) i l
  where
    last : (x : Bool) → cond x 1 0 ≤ 0 → x ≡ false
    last true h = absurd (not-suc-le-zero h)
    last false h = refl

-- a count above 0 has one that passes
pub count_to_pos : (n : ℕ) (b : ℕ → Bool) → 0 < count_to n b → (i : ℕ) × (i < n) × (b i ≡ true)
unfolding count_to
count_to_pos zero b h = absurd (not-suc-le-zero h)
count_to_pos (suc n) b h = go (count_to_pos n b) (b n) refl
  where
    go
        : (0 < count_to n b → (i : ℕ) × (i < n) × (b i ≡ true))
        → (x : Bool)
        → b n ≡ x
        → (i : ℕ) × (i < suc n) × (b i ≡ true)
    go r true e = (n, omega arith, e)
    go r false e =
        let l : 0 < count_to n b = omega (arith, rw e at h) in
        ((r l).0, omega (arith, (r l).1), (r l).2)

-- what a test over all says of some
pub any_to_true : (n : ℕ) (b : ℕ → Bool) → any_to n b ≡ true → (i : ℕ) × (i < n) × (b i ≡ true)
unfolding any_to
any_to_true zero b h = absurd (false≢true h)
any_to_true (suc n) b h = go (any_to_true n b) (any_to n b) refl h
  where
    go
        : (any_to n b ≡ true → (i : ℕ) × (i < n) × (b i ≡ true))
        → (x : Bool)
        → any_to n b ≡ x
        → x || b n ≡ true
        → (i : ℕ) × (i < suc n) × (b i ≡ true)
    go r true e k = ((r e).0, omega (arith, (r e).1), (r e).2)
    go r false e k = (n, omega arith, k)

pub any_to_some : (n : ℕ) (b : ℕ → Bool) (i : ℕ) → i < n → b i ≡ true → any_to n b ≡ true
unfolding any_to
any_to_some zero b i l h = absurd (not-suc-le-zero l)
any_to_some (suc n) b i l h =
    below
    (λ i. b i ≡ true → any_to n b || b n ≡ true)
    n
    (λ i l h. rw (any_to_some n b i l h))
    (λ h. rw h (or-true (any_to n b)))
    i
    l
    h

pub any_to-none : (n : ℕ) (b : ℕ → Bool) → ((i : ℕ) → i < n → b i ≡ false) → any_to n b ≡ false
unfolding any_to
any_to-none zero b h = refl
any_to-none (suc n) b h = rw (any_to-none n b (λ i l. h i (omega arith)), h n (omega arith))

pub all_to-at : (n : ℕ) (b : ℕ → Bool) → all_to n b ≡ true → (i : ℕ) → i < n → b i ≡ true
unfolding all_to
all_to-at zero b e i l = absurd (not-suc-le-zero l)
all_to-at (suc n) b e i l =
    below
    (λ i. b i ≡ true)
    n
    (all_to-at n b ((and-eq-true_iff (all_to n b) (b n)).0 e).0)
    ((and-eq-true_iff (all_to n b) (b n)).0 e).1
    i
    l

pub all_to-every : (n : ℕ) (b : ℕ → Bool) → ((i : ℕ) → i < n → b i ≡ true) → all_to n b ≡ true
unfolding all_to
all_to-every zero b h = refl
all_to-every (suc n) b h = rw (all_to-every n b (λ i l. h i (omega arith)), h n (omega arith))

-- the lowest is at most the bound; it passes where it is below the bound; none below it passes
pub lowest_le : (n : ℕ) (b : ℕ → Bool) → lowest n b ≤ n
unfolding lowest
lowest_le zero b = zero-le
lowest_le (suc n) b = go (b zero) (lowest_le n (λ i. b (suc i)))
  where
    go : (x : Bool) → lowest n (λ i. b (suc i)) ≤ n → elim x [ true ↦ zero | false ↦ suc (lowest n (λ i. b (suc i))) ] ≤ suc n
    go true h = zero-le
    go false h = omega arith

pub lowest-passes : (n : ℕ) (b : ℕ → Bool) → lowest n b < n → b (lowest n b) ≡ true
unfolding lowest
lowest-passes zero b l = absurd (not-suc-le-zero l)
lowest-passes (suc n) b l = go (b zero) refl (lowest-passes n (λ i. b (suc i))) l
  where
    go
        : (x : Bool)
        → b zero ≡ x
        → (lowest n (λ i. b (suc i)) < n → b (suc (lowest n (λ i. b (suc i)))) ≡ true)
        → elim x [ true ↦ zero | false ↦ suc (lowest n (λ i. b (suc i))) ] < suc n
        → b (elim x [ true ↦ zero | false ↦ suc (lowest n (λ i. b (suc i))) ]) ≡ true
    go true e h l = e
    go false e h l = h (omega arith)

pub lowest_below : (n : ℕ) (b : ℕ → Bool) (i : ℕ) → i < lowest n b → b i ≡ false
unfolding lowest
lowest_below zero b i l = absurd (not-suc-le-zero l)
lowest_below (suc n) b zero l = go (b zero) l
  where
    go : (x : Bool) → zero < elim x [ true ↦ zero | false ↦ suc (lowest n (λ i. b (suc i))) ] → x ≡ false
    go true l = absurd (not-suc-le-zero l)
    go false l = refl
lowest_below (suc n) b (suc i) l = lowest_below n (λ i. b (suc i)) i (go (b zero) l)
  where
    go : (x : Bool) → suc i < elim x [ true ↦ zero | false ↦ suc (lowest n (λ i. b (suc i))) ] → i < lowest n (λ i. b (suc i))
    go true l = absurd (not-suc-le-zero l)
    go false l = omega arith
