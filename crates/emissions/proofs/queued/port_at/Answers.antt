-- `port_at` meets its contract.
use mathlib.Core.Path.{sym}
use native.Mathlib.Omega.{arith}
use Rattle.emissions.specs.laws.Hops.{past_end}
use Rattle.emissions.proofs.queued.port_at.Goals as goal

pub returns-else-i-route : goal.returns-else-i-route
returns-else-i-route c = sym (past_end c.args.route.now c.args.i (omega arith))
