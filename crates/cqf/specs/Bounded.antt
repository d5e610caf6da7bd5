-- Sums, largest numbers, counts, tests, searches and tables over the numbers below a bound, and tests on lists.
use Rattle.std.specs.Prelude.{ℕ, zero, suc, max, ◌+◌, List, [], ◌∷◌, Bool, true, false, cond, not, ◌&&◌, ◌||◌, eqb, leb}

-- g 0 + .. + g (n - 1)
unfoldable pub sum_to : ℕ → (ℕ → ℕ) → ℕ
sum_to zero g = 0
sum_to (suc n) g = sum_to n g + g n

-- the largest of g 0, .. and g (n - 1), 0 where n is 0
unfoldable pub max_to : ℕ → (ℕ → ℕ) → ℕ
max_to zero g = 0
max_to (suc n) g = max (max_to n g) (g n)

-- how many i below n pass the test
unfoldable pub count_to : ℕ → (ℕ → Bool) → ℕ
count_to zero b = 0
count_to (suc n) b = count_to n b + cond (b n) 1 0

-- whether some i below n passes the test
unfoldable pub any_to : ℕ → (ℕ → Bool) → Bool
any_to zero b = false
any_to (suc n) b = any_to n b || b n

-- whether each i below n passes the test
unfoldable pub all_to : ℕ → (ℕ → Bool) → Bool
all_to zero b = true
all_to (suc n) b = all_to n b && b n

-- the lowest i below n that passes the test, or n where none does
unfoldable pub lowest : ℕ → (ℕ → Bool) → ℕ
lowest zero b = zero
lowest (suc n) b = elim (b zero) [ true ↦ zero | false ↦ suc (lowest n (λ i. b (suc i))) ]

-- g 0, g 1, .. to g (n - 1)
unfoldable pub tabulate : ℕ → (ℕ → ℕ) → List ℕ
tabulate zero g = []
tabulate (suc n) g = g zero ∷ tabulate n (λ i. g (suc i))

-- from lo to hi, both included
abbrev pub within : ℕ → ℕ → ℕ → Bool
within lo hi n = leb lo n && leb n hi

-- whether n stands in the list
unfoldable pub elem : ℕ → List ℕ → Bool
elem n [] = false
elem n (x ∷ xs) = eqb n x || elem n xs

-- whether no number stands twice in the list
unfoldable pub distinct : List ℕ → Bool
unfolding elem
distinct [] = true
distinct (x ∷ xs) = not (elem x xs) && distinct xs

-- whether each number of the list passes the test
unfoldable pub every : (ℕ → Bool) → List ℕ → Bool
every b [] = true
every b (x ∷ xs) = b x && every b xs

-- the h numbers of a list from position at on
unfoldable pub sublist : List ℕ → ℕ → ℕ → List ℕ
sublist l at zero = []
sublist l at (suc h) = lib.ListN.get_or l at 0 ∷ sublist l (suc at) h
