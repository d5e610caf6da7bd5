-- `put_clocks` meets its contract, by whether the clocks are equal.
use mathlib.Core.Path.{sym, ap, ◌∙◌}
use mathlib.Core.Bool.{not}
use Rattle.cqf.specs.Plan.{clocks_equal}
use Rattle.tables.specs.Lent.{plan_lent}
use Rattle.saving.specs.declared.kind.Kind.{Kind}
use Rattle.saving.specs.Slots.{field_in}
use Rattle.saving.specs.laws.Slots.{test_none, test_one}
use Rattle.saving.proofs.clock.put_clocks.Goals as goal

pub returns-else-not-clocks_equal : goal.returns-else-not-clocks_equal
returns-else-not-clocks_equal c =
    let p = plan_lent c.args.lent in
    test_none (field_in Kind.Clock p 0) c.args.out.now (not (clocks_equal p)) (ap not (sym c.clocks_equal.ensures ∙ c.if-not-clocks_equal.false))

pub returns-then-not-clocks_equal : goal.returns-then-not-clocks_equal
returns-then-not-clocks_equal c =
    let p = plan_lent c.args.lent in
    test_one (field_in Kind.Clock p 0) c.args.out.now (not (clocks_equal p)) (ap not (sym c.clocks_equal.ensures ∙ c.if-not-clocks_equal.true)) c.put_clock.ensures
