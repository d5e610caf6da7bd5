use mathlib.Core.Path.{refl, sym, ap, ◌∙◌}
use Prim.Native.Nat.{◌+◌}
use native.Mathlib.Omega.{arith}
use Rattle.std.proofs.Common.{add-one}
use Rattle.cqf.proofs.laws.Ranges.{top_most}
use Rattle.tables.specs.Lent.{plan_lent}
use Rattle.questions.specs.SpanList.{nth}
use Rattle.questions.specs.declared.one_span.SpanRecord.{SpanRecord}
use Rattle.questions.specs.laws.SpanList.{nth-from, nth-none, count_ends, count_goes_on, spans_most}
use Rattle.questions.proofs.span_count.count_spans.Goals as goal

pub loop-span-init : goal.loop-span-init
unfolding nth
loop-span-init c = (refl, omega arith)

pub overflow_add-count : goal.overflow_add-count
overflow_add-count c = omega (arith, c.loop-span.invariant.1, spans_most (plan_lent c.args.held.lent), top_most _ c.args.held.valid)

pub loop-span-smaller : goal.loop-span-smaller
loop-span-smaller c =
    let p = plan_lent c.args.held.lent in
    let count = c.loop-span.count in
    let s = c.in-Some.ensures.some _ refl in
    let next = nth-from p count c.loop-span.invariant.0 s.0 in
    omega (arith, count_goes_on p count c.loop-span.invariant.1 (λ z. omega (arith, s.1, ap (λ (r : SpanRecord). r.last) next, z)))

pub loop-span-preserved : goal.loop-span-preserved
loop-span-preserved c =
    let p = plan_lent c.args.held.lent in
    let count = c.loop-span.count in
    let s = c.in-Some.ensures.some _ refl in
    let next = nth-from p count c.loop-span.invariant.0 s.0 in
    let more = count_goes_on p count c.loop-span.invariant.1 (λ z. omega (arith, s.1, ap (λ (r : SpanRecord). r.last) next, z)) in
    (ap (λ (r : SpanRecord). r.last + 1) (next ∙ ap (nth p) (sym (add-one count))), omega (arith, more))

pub returns : goal.returns
returns c =
    let p = plan_lent c.args.held.lent in
    count_ends p c.loop-span.count c.loop-span.invariant.1 (nth-none p c.loop-span.count c.loop-span.invariant.0 (c.in_default.ensures.none refl))
