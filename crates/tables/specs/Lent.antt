-- The plan of tables that are lent column by column, and what a planner lends.
use Rattle.std.specs.Prelude.{◌≡◌}
use Rattle.cqf.specs.Plan.{Plan}
use Rattle.numbers.specs.Clock.{clock_of}
use Rattle.tables.specs.Columns.{plan_by}
use Rattle.tables.specs.declared.lending.Lent.{Lent}
use Rattle.tables.specs.declared.Planner.{Planner}

abbrev pub plan_lent : Lent → Plan
plan_lent s =
    plan_by s.guard s.top (clock_of s.clock) s.rates.now s.blockings.now s.extras.now s.periods.now s.counts.now s.lengths.now
    s.jitters.now s.hops.now s.routes.now

-- a planner's own numbers and columns
pub record LentOf (planner : Planner) (lent : Lent) : Type 0 where
  pub guard : lent.guard ≡ planner.guard
  pub top : lent.top ≡ planner.top
  pub clock : lent.clock ≡ planner.clock
  pub rates : lent.rates.now ≡ planner.rates
  pub blockings : lent.blockings.now ≡ planner.blockings
  pub extras : lent.extras.now ≡ planner.extras
  pub periods : lent.periods.now ≡ planner.periods
  pub counts : lent.counts.now ≡ planner.counts
  pub lengths : lent.lengths.now ≡ planner.lengths
  pub jitters : lent.jitters.now ≡ planner.jitters
  pub hops : lent.hops.now ≡ planner.hops
  pub routes : lent.routes.now ≡ planner.routes
