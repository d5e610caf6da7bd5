-- Laws of numbers that passed their tests.
use Rattle.std.specs.Prelude.{ℕ, zero, suc, ◌≤◌, ◌<◌, ◌≡◌, refl, Bool, true, false, cond, List, [], ◌∷◌, eqb, length, get_or}
use Rattle.std.proofs.Common.{arith, eqb-true}
use Rattle.cqf.specs.Bounded.{every}
use Rattle.cqf.specs.Limits.{blocking_ok, length_ok, port_ok, max_length}
use Rattle.cqf.proofs.laws.Bounded.{or_cases}
use Rattle.plan_reading.specs.laws.fields.Within.{within_high}
use Rattle.plan_text.specs.Line.{first_failing, port_test}

-- a blocker's length
pub blocking_most : (n : ℕ) → blocking_ok n ≡ true → n ≤ max_length
blocking_most n ok = or_cases (eqb n 0) (length_ok n) ok (λ e. omega (arith, eqb-true n 0 e)) (λ e. within_high 64 max_length n e)

-- where none fails, each passes
pub none-failing : {A : Type 0} (t : ℕ → A → Bool) (xs : List A) (d : A) → length xs ≤ first_failing t xs → (i : ℕ) → i < length xs → t i (get_or xs i d) ≡ true
unfolding first_failing
none-failing t [] d h i less = absurd (omega arith)
none-failing t (x ∷ xs) d h i less = go (none-failing (λ j. t (suc j)) xs d) (t 0 x) refl h i less
  where
    go : (length xs ≤ first_failing (λ j. t (suc j)) xs → (i : ℕ) → i < length xs → t (suc i) (get_or xs i d) ≡ true) → (b : Bool) → t 0 x ≡ b → suc (length xs) ≤ cond b (suc (first_failing (λ j. t (suc j)) xs)) 0 → (i : ℕ) → i < suc (length xs) → t i (get_or (x ∷ xs) i d) ≡ true
    go ih false e h i less = absurd (omega arith)
    go ih true e h zero less = e
    go ih true e h (suc i) less = ih (omega arith) i (omega arith)

-- so the ports of a route are in range
pub ports_ok : (r : List ℕ) → length r ≤ first_failing port_test r → every port_ok r ≡ true
unfolding every first_failing
ports_ok [] h = refl
ports_ok (n ∷ r) h = go (ports_ok r) (port_ok n) refl h
  where
    go : (length r ≤ first_failing port_test r → every port_ok r ≡ true) → (b : Bool) → port_ok n ≡ b → suc (length r) ≤ cond b (suc (first_failing port_test r)) 0 → every port_ok (n ∷ r) ≡ true
    go ih false e h = absurd (omega arith)
    go ih true e h = rw e (ih (omega arith))
