-- `questions::span_list::spans_tables` meets its contract. Round the loop the first i spans are in the list, and the next begins above the last.
use mathlib.Core.Path.{◌≡◌}
use Prim.Native.Nat.{◌+◌}
use Rattle.tables.specs.Lent.{plan_lent}
use Rattle.questions.specs.SpanList.{nth, filled}
use Rattle.questions.proofs.span_list.spans_tables.Given as goal

abbrev pub invariant-loop-i : goal.invariant-loop-i
invariant-loop-i l = (l.from ≡ (nth (plan_lent l.held.lent) l.i).last + 1) × (l.list ≡ filled (plan_lent l.held.lent) l.fn.list l.i)
