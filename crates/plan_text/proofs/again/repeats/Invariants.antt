-- `repeats` meets its contract. The invariant: the numbers from i on tell.
use Rattle.std.proofs.Common.{◌≡◌, drop}
use Rattle.cqf.specs.Bounded.{distinct}
use Rattle.plan_text.proofs.again.repeats.Given as goal

abbrev pub invariant-loop-i : goal.invariant-loop-i
invariant-loop-i l = distinct l.list ≡ distinct (drop l.i l.list)
