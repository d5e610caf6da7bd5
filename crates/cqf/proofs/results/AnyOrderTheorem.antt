-- The order in which ports take their steps does not matter: they end at the least duration, and the margin-safe one is the largest
-- of the ports' own. Stated in `PortSteps`.
use Rattle.std.specs.Prelude.{◌≡◌, true}
use Rattle.cqf.specs.Plan.{Plan, valid_plan}
use Rattle.cqf.specs.PortSteps.{AnyOrder}
use Rattle.cqf.proofs.laws.PortSteps.{steps_least, steps_above}
use Rattle.cqf.proofs.laws.PortMarginSafe.{largest-own}
use Rattle.cqf.proofs.laws.Search.{fails-need}

pub any_order : (p : Plan) → valid_plan p ≡ true → AnyOrder p
any_order p valid =
    record {
      rises = λ t q first e. fails-need p valid t q first e;
      ends = λ t s within good. steps_least p valid s within good;
      none = λ t s above. steps_above p valid s above;
      safe = largest-own p;
    }
