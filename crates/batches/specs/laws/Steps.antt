-- How many steps an iteration uses of those that it is given, and how far it comes.
use Rattle.std.specs.Prelude.{◌≡◌, refl, Bool, true, false, ℕ, zero, suc, ◌+◌, ◌≤◌, ◌<◌}
use Rattle.std.proofs.Common.{arith, leb-false}
use Rattle.cqf.specs.Plan.{Plan}
use Rattle.cqf.specs.Need.{largest_need}
use Rattle.cqf.specs.FixedPoint.{Outcome, found, none, unfinished, after_steps, settles, passes_top, iterate}

-- an outcome of n steps from t on: it used no more than these, or rose by 1 ns with each
abbrev pub Uses : (t n : ℕ) → Outcome → Type 0
Uses t n (found u k) = k ≤ n
Uses t n (none k) = k ≤ n
Uses t n (unfinished u) = t + n ≤ u

one_more : (t u n : ℕ) → t < u → (o : Outcome) → Uses u n o → Uses t (suc n) (after_steps 1 o)
one_more t u n l (found v k) h = omega arith
one_more t u n l (none k) h = omega arith
one_more t u n l (unfinished v) h = omega arith

pub uses : (p : Plan) (n t : ℕ) → Uses t n (iterate p t n)
unfolding iterate
uses p zero t = omega arith
uses p (suc n) t = go (settles p t) refl (passes_top p t) (uses p n (largest_need p t))
  where
    go
        : (x : Bool)
        → settles p t ≡ x
        → (y : Bool)
        → Uses (largest_need p t) n (iterate p (largest_need p t) n)
        → Uses t (suc n) (elim x [ true ↦ found t 1 | false ↦ elim y [ true ↦ none 1 | false ↦ after_steps 1 (iterate p (largest_need p t) n) ] ])
    go true e y h = omega arith
    go false e true h = omega arith
    go false e false h = one_more t (largest_need p t) n (leb-false _ _ e) (iterate p (largest_need p t) n) h
