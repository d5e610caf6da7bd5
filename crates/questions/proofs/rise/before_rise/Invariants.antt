-- `questions::rise::before_rise` is safe. Round the loop nearest is at most what it starts with.
use Prim.Native.Nat.{◌≤◌}
use Rattle.questions.specs.Run.{far}
use Rattle.questions.proofs.rise.before_rise.Given as goal

abbrev pub invariant-loop-f : goal.invariant-loop-f
invariant-loop-f l = l.nearest ≤ far
