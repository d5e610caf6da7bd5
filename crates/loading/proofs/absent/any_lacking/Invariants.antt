-- `any_lacking` meets its contract. The invariant: what was found is so of the marks passed.
use Prim.Native.Nat.{ℕ, ◌-◌, ◌≤◌}
use mathlib.Core.Path.{◌≡◌}
use mathlib.Core.Bool.{Bool}
use mathlib.Core.List.{List}
use lib.Dec.{ltb}
use lib.ListN.{length, get_or}
use Rattle.cqf.specs.Bounded.{any_to}
use Rattle.loading.proofs.absent.any_lacking.Given as goal

abbrev pub lacks_at : (marks others : List ℕ) → ℕ → Bool
lacks_at marks others i = ltb (get_or others i 0) (get_or marks i 0)

abbrev pub invariant-loop-i : goal.invariant-loop-i
invariant-loop-i l = (l.i ≤ length l.marks) × (l.found ≡ any_to l.i (lacks_at l.marks l.others))

abbrev pub decreases-loop-i : goal.decreases-loop-i
decreases-loop-i l = length l.marks - l.i
