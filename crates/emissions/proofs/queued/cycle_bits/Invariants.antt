-- `cycle_bits` meets its contract. The loop's invariant: `bits` has what each port must send of the flows passed.
use mathlib.Core.Path.{◌≡◌}
use lib.ListN.{length}
use Rattle.cqf.specs.Limits.{port_slots}
use Rattle.tables.specs.Lent.{plan_lent}
use Rattle.emissions.specs.laws.Queued.{Sums}
use Rattle.emissions.proofs.queued.cycle_bits.Given as goal

abbrev pub invariant-loop-f : goal.invariant-loop-f
invariant-loop-f l = (length l.bits ≡ port_slots) × Sums (plan_lent l.held.lent) l.over l.q l.latest l.c l.f l.bits
