-- `questions::iteration::fixed_point_tables` meets its contract: the refusals before the steps, and what they answer.
use mathlib.Core.Path.{sym, ◌∙◌}
use Rattle.plan_reading.specs.laws.fields.Within.{within_low, within_high}
use Rattle.tables.specs.Lent.{plan_lent}
use Rattle.questions.specs.laws.Answers.{fixed_point_none, fixed_point_out, fixed_point_within}
use Rattle.questions.proofs.iteration.fixed_point_tables.Goals as goal

pub returns-in_default : goal.returns-in_default
returns-in_default c = sym (fixed_point_none (plan_lent c.args.lent) _ _ c.in_default.ensures)

pub returns-then-not-between : goal.returns-then-not-between
returns-then-not-between c =
    let held = c.in-Some.held in
    rw (sym c.in-Some.ensures) (sym (fixed_point_out (plan_lent held.lent) _ _ held.valid (sym c.between.ensures ∙ c.if-not-between.true)))

pub iterate-requires : goal.iterate-requires
iterate-requires c =
    let ranged = sym c.between.ensures ∙ c.if-not-between.false in
    (within_low _ _ _ ranged, within_high _ _ _ ranged)

pub returns : goal.returns
returns c =
    let held = c.in-Some.held in
    rw (sym c.in-Some.ensures) (c.iterate.ensures ∙ sym (fixed_point_within (plan_lent held.lent) _ _ held.valid (sym c.between.ensures ∙ c.if-not-between.false)))
