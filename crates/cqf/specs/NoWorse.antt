-- What one plan loses nothing by against another of the same top: the durations that are admissible, the least and the margin-safe.
use Rattle.std.specs.Prelude.{◌≡◌, true, ℕ, ◌≤◌}
use Rattle.cqf.specs.Plan.{Plan}
use Rattle.cqf.specs.Condition.{admissible, least, margin_safe}

-- Each duration that is admissible for the first plan is so for the second. Where the first has a least duration, the second has
-- one that is no larger; the same of the margin-safe one. A plan has one where it is at most top.
pub record NoWorse (second first : Plan) : Type 0 where
  pub durations : (T : ℕ) → admissible first T ≡ true → admissible second T ≡ true
  pub leasts : least first ≤ first.top → (least second ≤ second.top) × (least second ≤ least first)
  pub margin_safes : margin_safe first ≤ first.top → (margin_safe second ≤ second.top) × (margin_safe second ≤ margin_safe first)
