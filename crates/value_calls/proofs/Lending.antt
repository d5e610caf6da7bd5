-- The tables that a planner lends, under the top that its form allows, are its plan.
use Rattle.std.specs.Prelude.{◌≡◌}
use Rattle.tables.specs.Lent.{LentOf}
use Rattle.tables.specs.Tables.{plan_of}
use Rattle.tables.specs.declared.Planner.{Planner}
use Rattle.tables.specs.declared.lending.Lent.{Lent}
use Rattle.column_calls.specs.Formed.{plan_formed}

pub lent_formed : {planner : Planner} {lent : Lent} → LentOf planner lent → plan_formed planner.form lent ≡ plan_of planner
lent_formed h = rw (h.guard, h.top, h.clock, h.rates, h.blockings, h.extras, h.periods, h.counts, h.lengths, h.jitters, h.hops, h.routes)
