-- `mark_named` meets its contract. The loop's invariant: every port passed is new, `seen` has 1 for each of them, and each is marked as named.
use mathlib.Core.Path.{◌≡◌}
use mathlib.Core.Bool.{true}
use mathlib.Core.List.{[]}
use lib.ListN.{length}
use Rattle.cqf.specs.Bounded.{all_to, every, sublist}
use Rattle.cqf.specs.Limits.{port_slots}
use Rattle.cqf.specs.Plan.{port_in}
use Rattle.plan.specs.Field.{route_ports}
use Rattle.tables.specs.Columns.{Marked}
use Rattle.loading.specs.Loading.{Covers, MarksOnly}
use Rattle.loading.specs.laws.Twice.{passes}
use Rattle.loading.proofs.repeat.mark_named.Given as goal

abbrev pub invariant-loop-i : goal.invariant-loop-i
invariant-loop-i l =
    (length l.seen ≡ port_slots)
    × (all_to l.i (passes (route_ports l.route)) ≡ true)
    × Marked [] l.seen (sublist (route_ports l.route) 0 l.i) (λ _. 1)
    × (length l.named ≡ port_slots)
    × Covers l.initial.named l.named
    × (every (port_in l.named) (sublist (route_ports l.route) 0 l.i) ≡ true)
    × MarksOnly l.initial.named l.named (route_ports l.route)
