-- The plan that a planner's tables hold. Where the form's number is unknown, or a route has more ports than the form allows, no load
-- can have left them: their top counts as 0, so that they hold no plan.
use Rattle.cqf.specs.Form.{held_top}
use Rattle.cqf.specs.Plan.{Plan}
use Rattle.numbers.specs.Clock.{clock_of}
use Rattle.tables.specs.Columns.{plan_by}
use Rattle.tables.specs.declared.Planner.{Planner}

abbrev pub plan_of : Planner → Plan
plan_of s =
    plan_by s.guard (held_top s.form s.hops s.top) (clock_of s.clock) s.rates s.blockings s.extras s.periods s.counts s.lengths
    s.jitters s.hops s.routes
