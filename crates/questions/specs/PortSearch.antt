-- What the searches port by port speak of: how far one port's steps go, and which port needs most.
use Rattle.std.specs.Prelude.{◌≡◌, false, List, ℕ, ◌≤◌, ◌<◌, get_or}
use Rattle.cqf.specs.Limits.{port_slots}
use Rattle.cqf.specs.Plan.{Plan}
use Rattle.cqf.specs.Condition.{fails}
use Rattle.cqf.specs.Need.{need_by}
use Rattle.cqf.specs.PortSteps.{PortSteps}
use Rattle.cqf.specs.Bounded.{max_to}

-- the port in slot q took steps from a duration until it passes, or until they passed top
pub record Raised (p : Plan) (q from reached : ℕ) : Type 0 where
  pub steps : PortSteps p from reached
  pub passes : reached ≤ p.top → fails p reached q ≡ false

-- what the port in slot q needs, by the columns
abbrev pub need_in : (guard : ℕ) (rates blockings extras demands : List ℕ) → ℕ → ℕ
need_in guard rates blockings extras demands q = need_by guard (get_or rates q 0) (get_or blockings q 0) (get_or extras q 0) (get_or demands q 0)

-- the port in this slot needs so much, and none needs more
pub record NeedsMost (needs : ℕ → ℕ) (slot needed : ℕ) : Type 0 where
  pub inside : slot < port_slots
  pub here : needs slot ≡ max_to port_slots needs
  pub most : needed ≡ max_to port_slots needs
