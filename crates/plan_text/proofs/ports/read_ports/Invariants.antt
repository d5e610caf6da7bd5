-- The invariant of `read_ports`: the words before the position are read.
use Rattle.std.proofs.Common.{◌-◌, ◌≤◌, length, drop}
use Rattle.words.specs.Words.{words}
use Rattle.plan_text.specs.laws.Ports.{PortsSoFar}
use Rattle.plan_text.proofs.ports.read_ports.Given as goal

abbrev pub invariant-loop-word : goal.invariant-loop-word
invariant-loop-word l = record {
  within : l.next ≤ length l.line;
  few : l.count ≤ l.next;
  so_far : PortsSoFar (words (drop l.at l.line)) l.route l.count (words (drop l.next l.line));
}

abbrev pub decreases-loop-word : goal.decreases-loop-word
decreases-loop-word l = length l.line - l.next
