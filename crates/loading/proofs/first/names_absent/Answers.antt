-- `names_absent` meets its contract: only a flow names ports, and its route is the one in the part that the splitter gives.
use mathlib.Core.Path.{sym, ◌∙◌}
use native.Mathlib.Omega.{arith}
use Rattle.plan.specs.Field.{route_in}
use Rattle.plan.specs.laws.Whole.{part_whole}
use Rattle.plan_reading.specs.laws.reading.Absent.{absent_other, absent_flow, absent_flow2}
use Rattle.loading.proofs.first.names_absent.Goals as goal

pub returns-in-3 : goal.returns-in-3
unfolding route_in
returns-in-3 c =
    let p = c.args.plan.now in
    c.route_absent.ensures
    ∙ rw (c.route_bytes.ensures, c.field_value.ensures, part_whole p c.args.at c.requires.0)
    (sym (absent_flow c.args.rates.now p c.args.at (sym c.requires.1 ∙ c.in-3.is)))

pub returns-in-19 : goal.returns-in-19
unfolding route_in
returns-in-19 c =
    let p = c.args.plan.now in
    c.route_absent-in-19.ensures
    ∙ rw (c.route_bytes-in-19.ensures, c.field_value-in-19.ensures, part_whole p c.args.at c.requires.0)
    (sym (absent_flow2 c.args.rates.now p c.args.at (sym c.requires.1 ∙ c.in-19.is)))

pub returns-in_default : goal.returns-in_default
returns-in_default c = sym (absent_other _ _ _ (λ e. omega arith) (λ e. omega arith))
