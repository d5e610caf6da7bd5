-- The plan of tables that are lent column by column, by the top that the form's number allows.
use Rattle.std.specs.Prelude.{ℕ}
use Rattle.cqf.specs.Form.{held_top}
use Rattle.cqf.specs.Plan.{Plan}
use Rattle.numbers.specs.Clock.{clock_of}
use Rattle.tables.specs.Columns.{plan_by}
use Rattle.tables.specs.declared.lending.Lent.{Lent}

abbrev pub plan_formed : (form : ℕ) → Lent → Plan
plan_formed form l =
    plan_by l.guard (held_top form l.hops.now l.top) (clock_of l.clock) l.rates.now l.blockings.now l.extras.now l.periods.now
    l.counts.now l.lengths.now l.jitters.now l.hops.now l.routes.now
