-- `questions::one_span::span_tables` meets its contract: the refusals in their order, and a span or none.
use mathlib.Core.Path.{refl, sym, ◌∙◌}
use native.Mathlib.Omega.{arith}
use Rattle.plan_reading.specs.laws.fields.Within.{within_low}
use Rattle.tables.specs.Lent.{plan_lent}
use Rattle.questions.specs.laws.Spans.{span_none, span_out, span_no, span_yes}
use Rattle.questions.proofs.one_span.span_tables.Goals as goal

pub returns-in_default : goal.returns-in_default
returns-in_default c = sym (span_none (plan_lent c.args.lent) _ c.in_default.ensures)

pub returns-then-not-between : goal.returns-then-not-between
returns-then-not-between c =
    let held = c.in-Some.held in
    rw (sym c.in-Some.ensures) (sym (span_out (plan_lent held.lent) _ held.valid (sym c.between.ensures ∙ c.if-not-between.true)))

pub span_from-requires : goal.span_from-requires
span_from-requires c = within_low _ _ _ (sym c.between.ensures ∙ c.if-not-between.false)

pub returns-in_default-span_from : goal.returns-in_default-span_from
returns-in_default-span_from c =
    let held = c.in-Some.held in
    let ranged = sym c.between.ensures ∙ c.if-not-between.false in
    rw (sym c.in-Some.ensures) (sym (span_no (plan_lent held.lent) _ held.valid ranged (within_low _ _ _ ranged) (sym (c.in_default-span_from.ensures.none refl)) refl))

pub returns : goal.returns
returns c =
    let held = c.in-Some.held in
    let ranged = sym c.between.ensures ∙ c.if-not-between.false in
    let s = c.in-Some-span_from.ensures.some _ refl in
    rw (sym c.in-Some.ensures) (sym (span_yes (plan_lent held.lent) _ held.valid ranged (within_low _ _ _ ranged) s.0 (λ z. omega (arith, s.1, z))))
