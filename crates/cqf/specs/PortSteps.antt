-- The two searches port by port: steps of single ports in any order (in the literature: chaotic iteration), and each port's own
-- margin-safe duration.
use Rattle.std.specs.Prelude.{ℕ, suc, ◌≤◌, ◌<◌, ◌≡◌, Bool, true, not, ◌&&◌, cond, leb}
use Rattle.cqf.specs.Bounded.{any_to, max_to}
use Rattle.cqf.specs.Limits.{port_slots}
use Rattle.cqf.specs.Plan.{Plan}
use Rattle.cqf.specs.Condition.{crossed, fails, admissible, smallest, least, margin_safe}
use Rattle.cqf.specs.Need.{need}

-- Steps from a duration on: at each, some port that fails there is given what it needs there. Which port it is stays open.
pub data PortSteps (p : Plan) (from : ℕ) : ℕ → Type 0 where
  begin : PortSteps p from from
  next : {t : ℕ} → PortSteps p from t → (q : ℕ) → q < port_slots → fails p t q ≡ true → PortSteps p from (need p q t)

-- whether the port in slot q fails at no duration from T to top
unfoldable pub port_safe_from : Plan → ℕ → ℕ → Bool
unfolding fails any_to
port_safe_from p q T = not (any_to (suc p.top) (λ t. leb T t && fails p t q))

-- a port's own margin-safe duration: the smallest from which it fails at none up to top, or one above top where there is none
unfoldable pub port_margin_safe : Plan → ℕ → ℕ
unfolding smallest port_safe_from
port_margin_safe p q = smallest (port_safe_from p q) p.top

-- the highest number of a port that some flow crosses, 0 where there is none
unfoldable pub highest_crossed : Plan → ℕ
unfolding crossed max_to
highest_crossed p = max_to port_slots (λ q. cond (crossed p q) (suc q) 0)

-- That the order of the ports does not matter, for a valid plan.
pub record AnyOrder (p : Plan) : Type 0 where
  -- each step of a port rises, so steps end
  pub rises : (t q : ℕ) → 1 ≤ t → fails p t q ≡ true → t < need p q t
  -- from 1 ns on they end at the least duration, whichever port took each step
  pub ends : (t : ℕ) → PortSteps p 1 t → t ≤ p.top → admissible p t ≡ true → least p ≡ t
  -- and they pass top only where there is none
  pub none : (t : ℕ) → PortSteps p 1 t → p.top < t → least p ≡ suc p.top
  -- the margin-safe duration is the largest of the ports' own
  pub safe : margin_safe p ≡ max_to port_slots (port_margin_safe p)
