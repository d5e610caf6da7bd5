-- `match_items` meets its contract. The loop's invariant: the first i numbers are read and stored.
use Rattle.std.proofs.Common.{drop}
use Rattle.words.specs.Words.{words}
use Rattle.plan_text.specs.Kinds.{items}
use Rattle.plan_text.specs.Line.{match}
use Rattle.plan_text.specs.laws.Matching.{SoFar}
use Rattle.plan_text.proofs.line.match_items.Given as goal

abbrev pub invariant-loop-i : goal.invariant-loop-i
invariant-loop-i l = SoFar l.kind l.line (match (items l.kind) (words (drop l.at l.line))) l.numbers l.next l.i
