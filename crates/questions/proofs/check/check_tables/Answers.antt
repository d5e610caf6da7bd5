-- `questions::check::check_tables` meets its contract: the answer goes by how many ports fail.
use mathlib.Core.Path.{refl, sym, ◌∙◌}
use Rattle.plan_reading.specs.laws.fields.Within.{within_low, within_high}
use Rattle.tables.specs.Lent.{plan_lent}
use Rattle.questions.specs.laws.Answers.{check_none, check_out, check_good, check_bad}
use Rattle.questions.proofs.check.check_tables.Goals as goal

pub returns-in_default : goal.returns-in_default
returns-in_default c = sym (check_none (plan_lent c.args.lent) _ c.in_default.ensures)

pub returns-then-not-between : goal.returns-then-not-between
returns-then-not-between c =
    let held = c.in-Some.held in
    rw (sym c.in-Some.ensures) (sym (check_out (plan_lent held.lent) _ held.valid (sym c.between.ensures ∙ c.if-not-between.true)))

pub failing_at-ports-requires : goal.failing_at-ports-requires
failing_at-ports-requires c =
    let ranged = sym c.between.ensures ∙ c.if-not-between.false in
    (within_low _ _ _ ranged, within_high _ _ _ ranged, refl)

pub returns-then-ports-ne0 : goal.returns-then-ports-ne0
returns-then-ports-ne0 c =
    let held = c.in-Some.held in
    let f = c.failing_at-ports.ensures in
    rw (sym c.in-Some.ensures) (sym (check_bad (plan_lent held.lent) _ held.valid (sym c.between.ensures ∙ c.if-not-between.false) f.many c.if-ports-ne0.true f.lowest))

pub returns : goal.returns
returns c =
    let held = c.in-Some.held in
    rw (sym c.in-Some.ensures) (sym (check_good (plan_lent held.lent) _ held.valid (sym c.between.ensures ∙ c.if-not-between.false) c.failing_at-ports.ensures.many c.if-ports-ne0.false))
