-- The invariant of `read_lines`: the reading from this line on gives what the reading from the first gives.
use Rattle.std.proofs.Common.{◌-◌, length}
use Rattle.plan_text.specs.Drafting.{draft_of}
use Rattle.plan_text.specs.laws.TextLines.{Reached}
use Rattle.plan_text.proofs.reading.read_lines.Given as goal

abbrev pub invariant-loop-at : goal.invariant-loop-at
invariant-loop-at l = Reached l.text (draft_of l.draft) l.number l.at

abbrev pub decreases-loop-at : goal.decreases-loop-at
decreases-loop-at l = length l.text - l.at
