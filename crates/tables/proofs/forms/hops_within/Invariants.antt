-- `tables::forms::hops_within` meets its contract. The loop's invariant: whether every slot passed has no more ports.
use mathlib.Core.Path.{◌≡◌}
use lib.Dec.{leb}
use lib.ListN.{get_or}
use Rattle.cqf.specs.Bounded.{all_to}
use Rattle.tables.proofs.forms.hops_within.Given as goal

abbrev pub invariant-loop-count : goal.invariant-loop-count
invariant-loop-count l = l.within ≡ all_to l.count-index (λ i. leb (get_or l.hops i 0) l.most)
