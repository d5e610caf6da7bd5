-- `kind_of` meets its contract, word by word.
use mathlib.Core.Path.{sym, ◌∙◌}
use Rattle.plan_text.specs.Kinds.{kind_of}
use Rattle.plan_text.proofs.kinds.kind_of.Goals as goal

pub returns-then-same : goal.returns-then-same
unfolding kind_of
returns-then-same c = rw (sym c.same.ensures ∙ c.if-same.true)

pub returns-then-same-2 : goal.returns-then-same-2
unfolding kind_of
returns-then-same-2 c = rw (sym c.same.ensures ∙ c.if-same.false, sym c.same-else-same.ensures ∙ c.if-same-2.true)

pub returns-then-same-3 : goal.returns-then-same-3
unfolding kind_of
returns-then-same-3 c =
    rw (sym c.same.ensures ∙ c.if-same.false, sym c.same-else-same.ensures ∙ c.if-same-2.false, sym c.same-else-same-2.ensures ∙ c.if-same-3.true)

pub returns-then-same-4 : goal.returns-then-same-4
unfolding kind_of
returns-then-same-4 c =
    rw (sym c.same.ensures ∙ c.if-same.false, sym c.same-else-same.ensures ∙ c.if-same-2.false, sym c.same-else-same-2.ensures ∙ c.if-same-3.false, sym c.same-else-same-3.ensures ∙ c.if-same-4.true)

pub returns-then-same-5 : goal.returns-then-same-5
unfolding kind_of
returns-then-same-5 c =
    rw (sym c.same.ensures ∙ c.if-same.false, sym c.same-else-same.ensures ∙ c.if-same-2.false, sym c.same-else-same-2.ensures ∙ c.if-same-3.false, sym c.same-else-same-3.ensures ∙ c.if-same-4.false, sym c.same-else-same-4.ensures ∙ c.if-same-5.true)

pub returns-then-same-6 : goal.returns-then-same-6
unfolding kind_of
returns-then-same-6 c =
    rw (sym c.same.ensures ∙ c.if-same.false, sym c.same-else-same.ensures ∙ c.if-same-2.false, sym c.same-else-same-2.ensures ∙ c.if-same-3.false, sym c.same-else-same-3.ensures ∙ c.if-same-4.false, sym c.same-else-same-4.ensures ∙ c.if-same-5.false, sym c.same-else-same-5.ensures ∙ c.if-same-6.true)

pub returns-else-same-6 : goal.returns-else-same-6
unfolding kind_of
returns-else-same-6 c =
    rw (sym c.same.ensures ∙ c.if-same.false, sym c.same-else-same.ensures ∙ c.if-same-2.false, sym c.same-else-same-2.ensures ∙ c.if-same-3.false, sym c.same-else-same-3.ensures ∙ c.if-same-4.false, sym c.same-else-same-4.ensures ∙ c.if-same-5.false, sym c.same-else-same-5.ensures ∙ c.if-same-6.false)
