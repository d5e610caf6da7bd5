-- `first_field` meets its contract. The invariant: the search from this offset on gives what the search from the start gives.
use Prim.Native.Nat.{◌-◌, ◌≤◌}
use mathlib.Core.Path.{◌≡◌}
use lib.ListN.{length}
use Rattle.plan_reading.specs.Reading.{first_from, first_field}
use Rattle.loading.specs.Loading.{sought_in}
use Rattle.loading.proofs.first.first_field.Given as goal

abbrev pub invariant-loop-head : goal.invariant-loop-head
invariant-loop-head l =
    (l.at ≤ length l.plan)
    × (first_field (sought_in l.sought) l.plan ≡ first_from (sought_in l.sought) (length l.plan) l.plan l.at)

abbrev pub decreases-loop-head : goal.decreases-loop-head
decreases-loop-head l = length l.plan - l.at
