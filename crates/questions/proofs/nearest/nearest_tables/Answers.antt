-- `questions::nearest::nearest_tables` meets its contract: the refusals in their order, then both searches.
use mathlib.Core.Path.{refl, sym, ◌∙◌}
use Rattle.plan_reading.specs.laws.fields.Within.{within_low, within_high}
use Rattle.tables.specs.Lent.{plan_lent}
use Rattle.questions.specs.laws.Nearest.{nearest-none, nearest_out, nearest-found}
use Rattle.questions.proofs.nearest.nearest_tables.Goals as goal

pub returns-in_default : goal.returns-in_default
returns-in_default c = sym (nearest-none (plan_lent c.args.lent) _ c.in_default.ensures)

pub returns-then-not-between : goal.returns-then-not-between
returns-then-not-between c =
    let held = c.in-Some.held in
    rw (sym c.in-Some.ensures) (sym (nearest_out (plan_lent held.lent) _ held.valid (sym c.between.ensures ∙ c.if-not-between.true)))

pub last_upto-last-requires : goal.last_upto-last-requires
last_upto-last-requires c = (within_high _ _ _ (sym c.between.ensures ∙ c.if-not-between.false), refl)

pub first_from-first-requires : goal.first_from-first-requires
first_from-first-requires c =
    let ranged = sym c.between.ensures ∙ c.if-not-between.false in
    (within_low _ _ _ ranged, within_high _ _ _ ranged, c.last_upto-last.auto.out)

pub returns : goal.returns
returns c =
    let held = c.in-Some.held in
    rw (sym c.in-Some.ensures)
    (nearest-found (plan_lent held.lent) _ held.valid (sym c.between.ensures ∙ c.if-not-between.false)
    c.last_upto-last.ensures c.first_from-first.ensures c.told.ensures c.told-2.ensures)
