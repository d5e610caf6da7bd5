-- `first_absent` meets its contract: routes first, then jitter, then extra bytes.
use mathlib.Core.Path.{sym, ◌∙◌}
use Rattle.plan_reading.specs.laws.reading.Absent.{first_route, first_jitter, first_extra}
use Rattle.loading.proofs.first.first_absent.Goals as goal

pub returns-then-route-plan : goal.returns-then-route-plan
returns-then-route-plan c =
    let a = c.args in
    let f = c.first_field-route.ensures in
    f ∙ sym (first_route a.rates.now a.periods.now a.plan.now (rw f at c.if-route-plan.true))

pub returns-then-jitter-plan : goal.returns-then-jitter-plan
returns-then-jitter-plan c =
    let a = c.args in
    let f = c.first_field-route.ensures in
    let g = c.first_field-jitter.ensures in
    g ∙ sym (first_jitter a.rates.now a.periods.now a.plan.now (rw f at c.if-route-plan.false) (rw g at c.if-jitter-plan.true))

pub returns : goal.returns
returns c =
    let a = c.args in
    let f = c.first_field-route.ensures in
    let g = c.first_field-jitter.ensures in
    c.first_field.ensures
    ∙ sym (first_extra a.rates.now a.periods.now a.plan.now (rw f at c.if-route-plan.false) (rw g at c.if-jitter-plan.false))
