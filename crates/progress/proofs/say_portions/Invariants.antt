-- Round the loop so many steps from 1 ns on have come to at, and there are fewer than top.
use Rattle.std.proofs.Common.{◌-◌}
use Rattle.tables.specs.Tables.{plan_of}
use Rattle.progress.specs.Portion.{Reached}
use Rattle.progress.proofs.say_portions.Given as goal

abbrev pub invariant-loop-duration : goal.invariant-loop-duration
invariant-loop-duration g l = Reached (plan_of l.held.planner) l.at l.used

abbrev pub decreases-loop-duration : goal.decreases-loop-duration
decreases-loop-duration g l = (plan_of l.held.planner).top - l.used
