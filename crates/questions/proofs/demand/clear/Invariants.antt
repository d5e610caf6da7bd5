-- `questions::demand::clear` meets its contract. The loop's invariant: every number passed is 0.
use mathlib.Core.Path.{◌≡◌}
use Prim.Native.Nat.{ℕ, ◌<◌}
use lib.ListN.{get_or}
use Rattle.questions.proofs.demand.clear.Given as goal

abbrev pub invariant-loop-bits : goal.invariant-loop-bits
invariant-loop-bits l = (k : ℕ) → k < l.bits-index → get_or l.out k 0 ≡ 0
