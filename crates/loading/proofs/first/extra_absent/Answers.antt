-- `extra_absent` meets its contract: the port is the number that the value begins with.
use mathlib.Core.Path.{sym, ◌∙◌}
use borrow.Author.Tests.{ne_eqb}
use Rattle.plan.specs.laws.Whole.{part_whole}
use Rattle.plan_reading.specs.laws.reading.Absent.{absent_plain, absent_extra}
use Rattle.loading.proofs.first.extra_absent.Goals as goal

pub returns-then-tag-eq-EXTRA_TAG : goal.returns-then-tag-eq-EXTRA_TAG
returns-then-tag-eq-EXTRA_TAG c =
    let a = c.args in
    let pre = c.requires in
    rw (c.is_in.ensures, c.first_number.ensures, c.field_value.ensures, part_whole a.plan.now a.at pre.0)
    (sym (absent_extra a.rates.now a.plan.now a.at (sym pre.1 ∙ c.if-tag-eq-EXTRA_TAG.true)))

pub returns-else-tag-eq-EXTRA_TAG : goal.returns-else-tag-eq-EXTRA_TAG
returns-else-tag-eq-EXTRA_TAG c = rw (ne_eqb _ _ c.if-tag-eq-EXTRA_TAG.false) (sym (absent_plain _ _ _ (λ e. c.if-tag-eq-EXTRA_TAG.false (c.requires.1 ∙ e))))
