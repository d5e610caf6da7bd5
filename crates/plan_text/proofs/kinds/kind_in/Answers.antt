-- `kind_in` meets its contract.
use Rattle.std.proofs.Common.{ap, ◌∙◌}
use Rattle.plan_text.specs.Kinds.{later_kind, kind_in}
use Rattle.plan_text.proofs.kinds.kind_in.Goals as goal

pub returns-then-begun : goal.returns-then-begun
unfolding kind_in
returns-then-begun c = c.later_kind.ensures ∙ ap later_kind c.kind_of-kind.ensures ∙ rw c.if-begun.true

pub returns-else-begun : goal.returns-else-begun
unfolding kind_in
returns-else-begun c = c.kind_of-kind.ensures ∙ rw c.if-begun.false
