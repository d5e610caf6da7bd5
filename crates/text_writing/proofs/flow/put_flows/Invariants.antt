-- The invariant of `put_flows`: the lines of the slots passed are written.
use Rattle.std.proofs.Common.{◌*◌}
use Rattle.plan_text.specs.Print.{lines_bytes, lines_to}
use Rattle.tables.specs.Lent.{plan_lent}
use Rattle.text_writing.specs.Puts.{Puts}
use Rattle.text_writing.specs.Bytes.{flow_at, most_flow}
use Rattle.text_writing.proofs.flow.put_flows.Given as goal

abbrev pub invariant-loop-slot : goal.invariant-loop-slot
invariant-loop-slot l = Puts (l.slot * most_flow) (lines_bytes (lines_to l.slot (flow_at (plan_lent l.held.lent)))) l.initial.out l.at l.next l.out
