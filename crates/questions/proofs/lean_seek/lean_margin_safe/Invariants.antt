-- `questions::lean_seek::lean_margin_safe` meets its contract. The loop's invariant: safe is the largest of the margin-safe durations
-- of the ports passed.
use Rattle.tables.specs.Lent.{plan_lent}
use Rattle.questions.specs.laws.LeanSearch.{SafeTo}
use Rattle.questions.proofs.lean_seek.lean_margin_safe.Given as goal

abbrev pub invariant-loop-q : goal.invariant-loop-q
invariant-loop-q l = SafeTo (plan_lent l.held.lent) l.q l.safe
