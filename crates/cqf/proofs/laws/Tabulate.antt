-- Laws of a table made by its entries.
use Rattle.std.specs.Prelude.{◌≡◌, refl, ℕ, zero, suc, ◌<◌, length, get_or}
use Rattle.std.proofs.Common.{ap, le_of_suc-le-suc, not-suc-le-zero}
use Rattle.cqf.specs.Bounded.{tabulate}

-- it has n numbers
pub tabulate_length : (n : ℕ) (g : ℕ → ℕ) → length (tabulate n g) ≡ n
unfolding tabulate
tabulate_length zero g = refl
tabulate_length (suc n) g = ap suc (tabulate_length n (λ i. g (suc i)))

-- number k of it is g k
pub tabulate-at : (n : ℕ) (g : ℕ → ℕ) (k : ℕ) → k < n → get_or (tabulate n g) k 0 ≡ g k
unfolding tabulate
tabulate-at zero g k l = absurd (not-suc-le-zero l)
tabulate-at (suc n) g zero l = refl
tabulate-at (suc n) g (suc k) l = tabulate-at n (λ i. g (suc i)) k (le_of_suc-le-suc l)
