-- `absent_port` meets its contract. The invariant: the ports from i on tell.
use Rattle.std.proofs.Common.{◌≡◌, ◌+◌, ◌-◌}
use Rattle.cqf.specs.Bounded.{sublist}
use Rattle.plan_text.specs.Text.{missing}
use Rattle.plan_text.proofs.absent.absent_port.Given as goal

abbrev pub invariant-loop-i : goal.invariant-loop-i
invariant-loop-i l =
    missing l.tables.rates (sublist l.tables.routes l.base l.hops) ≡ missing l.tables.rates (sublist l.tables.routes (l.base + l.i) (l.hops - l.i))
