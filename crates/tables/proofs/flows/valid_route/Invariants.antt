-- `tables::flows::valid_route` meets its contract. The loop's invariant: every port passed is in the plan and new, and `seen`
-- has 1 for each of them.
use mathlib.Core.Path.{◌≡◌}
use mathlib.Core.Bool.{Bool, true, not, ◌&&◌}
use mathlib.Core.List.{List, []}
use Prim.Native.Nat.{ℕ, ◌+◌}
use lib.ListN.{length, get_or}
use Rattle.cqf.specs.Bounded.{all_to, elem, sublist}
use Rattle.cqf.specs.Limits.{port_slots}
use Rattle.cqf.specs.Plan.{port_in}
use Rattle.tables.specs.Columns.{Marked}
use Rattle.tables.proofs.flows.valid_route.Given as goal

-- the test of the port at i of a route: it is in the plan, and stands nowhere before
abbrev pub passes : List ℕ → List ℕ → ℕ → ℕ → Bool
passes rates routes base i =
    port_in rates (get_or routes (base + i) 0) && not (elem (get_or routes (base + i) 0) (sublist routes base i))

abbrev pub invariant-loop-i : goal.invariant-loop-i
invariant-loop-i l =
    (length l.seen ≡ port_slots)
    × (all_to l.i (passes l.rates l.routes l.base) ≡ true)
    × Marked [] l.seen (sublist l.routes l.base l.i) (λ _. 1)
