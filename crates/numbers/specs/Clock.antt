-- The clocks' numbers of the code as those of a plan.
use Rattle.cqf.specs.Plan as plan
use Rattle.numbers.specs.declared.clock.Clock.{Clock}

abbrev pub clock_of : Clock → plan.Clock
clock_of k = record { drift = k.drift; timing_jitter_of = k.timing_jitter; sync_error_of = k.sync_error }
