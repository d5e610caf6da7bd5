-- `questions::need_at::need_within` meets its contract: at a duration out of the range nothing is worked out.
use mathlib.Core.Path.{sym, ap, ◌∙◌}
use mathlib.Core.Bool.{Bool, cond}
use Rattle.cqf.specs.Need.{largest_need}
use Rattle.plan_reading.specs.laws.fields.Within.{within_high}
use Rattle.tables.specs.Lent.{plan_lent}
use Rattle.questions.specs.laws.Scratch.{filled_by, filled_most, filled-served, filled-largest}
use Rattle.questions.proofs.need_at.need_within.Goals as goal

pub neediest-requires-clause-by_index : goal.neediest-requires-clause-by_index
neediest-requires-clause-by_index c =
    let within = within_high c.args.low c.args.held.lent.top c.args.duration (sym c.between.ensures ∙ c.if-not-between.false) in
    let full = filled_by c.args.held.valid within c.demands.ensures in
    λ q l. (filled_most full q l, filled-served full q l)

pub returns : goal.returns
returns c =
    let inside = sym c.between.ensures ∙ c.if-not-between.false in
    let within = within_high c.args.low c.args.held.lent.top c.args.duration inside in
    filled-largest (filled_by c.args.held.valid within c.demands.ensures) c.neediest.ensures.most
    ∙ sym (ap (λ (b : Bool). cond b (largest_need (plan_lent c.args.held.lent) c.args.duration) 0) inside)
