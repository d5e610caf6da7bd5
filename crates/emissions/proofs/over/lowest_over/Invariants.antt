-- `lowest_over` meets its contract. The loop's invariant: none of the ports passed leaves a frame unsent.
use mathlib.Core.Path.{◌≡◌}
use mathlib.Core.Bool.{false}
use Prim.Native.Nat.{ℕ, ◌<◌}
use Rattle.questions.specs.Failing.{fails_in}
use Rattle.emissions.proofs.over.lowest_over.Given as goal

abbrev pub invariant-loop-r : goal.invariant-loop-r
invariant-loop-r l =
    (j : ℕ) → j < l.r → fails_in l.lent.rates.now l.lent.blockings.now l.lent.extras.now l.window l.bits j ≡ false
