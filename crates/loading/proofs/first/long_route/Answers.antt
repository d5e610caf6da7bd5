-- `long_route` meets its contract: the route is the one in the part that the splitter gives.
use mathlib.Core.Path.{sym, ap, ◌∙◌}
use lib.Dec.{ltb}
use lib.ListN.{drop}
use Rattle.cqf.specs.Form.{older, most_hops_in}
use Rattle.plan.specs.Bytes.{value_at}
use Rattle.plan.specs.Layout.{Kind, numbers_size}
use Rattle.plan.specs.Field.{route_length, route_in}
use Rattle.plan.specs.laws.Route.{route_length_lem}
use borrow.Author.Tests.{ne_eqb}
use Rattle.plan.specs.laws.Whole.{part_whole}
use Rattle.plan_reading.specs.laws.reading.Long.{long_other, long_flow2}
use Rattle.loading.proofs.first.long_route.Goals as goal

pub returns-then-tag-eq-FLOW2_TAG : goal.returns-then-tag-eq-FLOW2_TAG
unfolding route_in
returns-then-tag-eq-FLOW2_TAG c =
    let p = c.args.plan.now in
    let route = c.route_bytes.ensures ∙ ap (drop (numbers_size Kind.flow2)) (c.field_value.ensures ∙ part_whole p c.args.at c.requires.0) in
    ap (ltb (most_hops_in older)) (c.route_len.ensures ∙ ap route_length route ∙ sym (route_length_lem (drop (numbers_size Kind.flow2) (value_at p c.args.at))))
    ∙ sym (long_flow2 p c.args.at (sym c.requires.1 ∙ c.if-tag-eq-FLOW2_TAG.true))

pub returns-else-tag-eq-FLOW2_TAG : goal.returns-else-tag-eq-FLOW2_TAG
returns-else-tag-eq-FLOW2_TAG c = rw (ne_eqb _ _ c.if-tag-eq-FLOW2_TAG.false) (sym (long_other _ _ (λ e. c.if-tag-eq-FLOW2_TAG.false (c.requires.1 ∙ e))))
