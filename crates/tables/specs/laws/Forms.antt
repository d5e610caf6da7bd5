-- Laws of tables by their form.
use Rattle.std.specs.Prelude.{◌≡◌, true}
use Rattle.cqf.specs.Form.{form_fits}
use Rattle.numbers.specs.Clock.{clock_of}
use Rattle.tables.specs.Columns.{plan_by}
use Rattle.tables.specs.Tables.{plan_of}
use Rattle.tables.specs.declared.Planner.{Planner}

-- tables that fit their form hold the plan of their columns
pub fits_plan
    : (s : Planner)
    → form_fits s.form s.hops ≡ true
    → plan_of s
    ≡ plan_by s.guard s.top (clock_of s.clock) s.rates s.blockings s.extras s.periods s.counts s.lengths s.jitters s.hops s.routes
fits_plan s fits = rw fits
