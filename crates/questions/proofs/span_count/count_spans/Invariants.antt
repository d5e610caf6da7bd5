-- `questions::span_count::count_spans` meets its contract. Round the loop so many spans were passed, and the next begins above the last.
use mathlib.Core.Path.{◌≡◌}
use Prim.Native.Nat.{◌+◌, ◌-◌, ◌≤◌}
use lib.ListN.{length}
use Rattle.span_lists.specs.Span.{spans}
use Rattle.tables.specs.Lent.{plan_lent}
use Rattle.questions.specs.SpanList.{nth}
use Rattle.questions.proofs.span_count.count_spans.Given as goal

abbrev pub invariant-loop-span : goal.invariant-loop-span
invariant-loop-span l = (l.from ≡ (nth (plan_lent l.held.lent) l.count).last + 1) × (l.count ≤ length (spans (plan_lent l.held.lent)))

abbrev pub decreases-loop-span : goal.decreases-loop-span
decreases-loop-span l = length (spans (plan_lent l.held.lent)) - l.count
