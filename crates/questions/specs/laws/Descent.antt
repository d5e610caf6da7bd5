-- The search for the margin-safe duration: where it ends, and where it goes on.
use Rattle.std.specs.Prelude.{◌≡◌, List, ℕ, suc, max, ◌-◌, ◌≤◌, ◌<◌}
use Rattle.std.proofs.Common.{sym, ap, subst, ◌∙◌, arith}
use Rattle.std.proofs.Math.Decide.{ℕ_discrete}
use Rattle.cqf.specs.Plan.{Plan}
use Rattle.cqf.specs.Condition.{margin_safe}
use Rattle.cqf.specs.Need.{largest_need}
use Rattle.cqf.proofs.laws.Search.{Descended, descent_bottom, descent_stop, descent_next}
use Rattle.questions.specs.laws.Scratch.{Filled}

-- every duration from below + 1 to top is admissible, and most is the most that a port needs at below, or 1
module _
    {p : Plan} {out : List ℕ} {below most : ℕ}
    (f : Filled p out below)
    (s : Descended p (suc below))
    (is : most ≡ max 1 (largest_need p below))
  where
    -- more than below is needed: a port fails there, or below is 0 and there is nothing further down
    pub descent_ends : below < most → margin_safe p ≡ suc below
    descent_ends l = go (ℕ_discrete below 0)
      where
        go : Dec (below ≡ 0) → margin_safe p ≡ suc below
        go (yes bottom) = descent_bottom p f.valid (subst (Descended p) (ap suc bottom) s) ∙ sym (ap suc bottom)
        go (no ne) = descent_stop p f.valid below (omega arith) s (omega arith)

    -- the search goes on one below the most that a port needs
    pub descent_down : most ≤ below → Descended p (suc (most - 1))
    descent_down l =
        let down : most ≡ suc (most - 1) = omega arith in
        subst (Descended p) down (descent_next p f.valid below most s (omega arith) l (omega arith))
