-- `latest_hop` meets its contract. The loop's invariant: `latest` is the latest place on the routes passed.
use mathlib.Core.Path.{◌≡◌}
use Rattle.cqf.specs.Bounded.{max_to}
use Rattle.tables.specs.Lent.{plan_lent}
use Rattle.emissions.specs.laws.Hops.{late}
use Rattle.emissions.proofs.hop.latest_hop.Given as goal

abbrev pub invariant-loop-f : goal.invariant-loop-f
invariant-loop-f l = l.latest ≡ max_to l.f (late (plan_lent l.held.lent) l.q)
