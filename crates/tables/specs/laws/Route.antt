-- A route as a part of the table of routes.
use Rattle.std.specs.Prelude.{◌≡◌, refl, true, List, ◌∷◌, ℕ, zero, suc, ◌+◌, ◌≤◌, ◌<◌, take, drop, length, get_or}
use Rattle.std.proofs.Common.{⊎_elim, arith, ap, ◌∙◌, drop-cons}
use Rattle.cqf.specs.Bounded.{sublist}
use Rattle.cqf.specs.Limits.{flow_slots, max_hops}
use Rattle.cqf.specs.Plan.{Plan, hops_of, valid_plan}
use Rattle.cqf.proofs.laws.Valid.{Empty, Held, slot_cases}

pub route_part : (l : List ℕ) (base h : ℕ) → base + h ≤ length l → take h (drop base l) ≡ sublist l base h
unfolding sublist
route_part l base zero fits = refl
route_part l base (suc h) fits =
    ap (take (suc h)) (drop-cons l base 0 (omega arith))
    ∙ ap (λ (r : List ℕ). get_or l base 0 ∷ r) (route_part l (suc base) h (omega arith))

-- a valid plan's routes are no longer than the table has places for
pub hops_few : (p : Plan) → valid_plan p ≡ true → (f : ℕ) → f < flow_slots → hops_of p f ≤ max_hops
hops_few p valid f l =
    ⊎_elim (λ (e : Empty p f). omega (arith, e.hops)) (λ (h : Held p f). h.hops_most) (slot_cases p valid f l)
