-- `jitter_absent` meets its contract: the flow is the number that the value begins with.
use mathlib.Core.Path.{sym, ◌∙◌}
use borrow.Author.Tests.{ne_eqb}
use Rattle.plan.specs.laws.Whole.{part_whole}
use Rattle.plan_reading.specs.laws.reading.Absent.{absent_steady, absent_jitter}
use Rattle.loading.proofs.first.jitter_absent.Goals as goal

pub returns-then-tag-eq-JITTER_TAG : goal.returns-then-tag-eq-JITTER_TAG
returns-then-tag-eq-JITTER_TAG c =
    let a = c.args in
    let pre = c.requires in
    rw (c.is_in.ensures, c.first_number.ensures, c.field_value.ensures, part_whole a.plan.now a.at pre.0)
    (sym (absent_jitter a.periods.now a.plan.now a.at (sym pre.1 ∙ c.if-tag-eq-JITTER_TAG.true)))

pub returns-else-tag-eq-JITTER_TAG : goal.returns-else-tag-eq-JITTER_TAG
returns-else-tag-eq-JITTER_TAG c = rw (ne_eqb _ _ c.if-tag-eq-JITTER_TAG.false) (sym (absent_steady _ _ _ (λ e. c.if-tag-eq-JITTER_TAG.false (c.requires.1 ∙ e))))
