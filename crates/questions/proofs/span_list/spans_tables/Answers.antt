use mathlib.Core.Path.{◌≡◌, refl, sym, ap, ◌∙◌}
use Prim.Native.Nat.{◌+◌, ◌≤◌, ◌<◌}
use native.Mathlib.Omega.{arith}
use borrow.Author.Rules.{rules}
use lib.ListN.{length}
use Rattle.std.specs.Prelude.{Some}
use Rattle.std.proofs.Common.{add-one}
use Rattle.span_lists.specs.Span.{spans}
use Rattle.tables.specs.Lent.{plan_lent}
use Rattle.questions.specs.SpanList.{nth, filled}
use Rattle.questions.specs.declared.one_span.SpanRecord.{SpanRecord}
use Rattle.questions.specs.laws.Spans.{next_some}
use Rattle.questions.specs.laws.SpanList.{nth-from, nth-none, filled-next, count_ends}
use Rattle.questions.specs.laws.Counted.{spans-none, spans_keeps, spans-listed, spans_short, filled_all}
use Rattle.questions.proofs.span_list.spans_tables.Goals as goal

pub returns-in_default : goal.returns-in_default
returns-in_default c =
    let p = plan_lent c.args.lent in
    (sym (spans-none p _ c.in_default.ensures), sym (spans_keeps p _ c.in_default.ensures))

pub returns-then-size-count : goal.returns-then-size-count
returns-then-size-count c =
    let held = c.in-Some.held in
    let p = plan_lent held.lent in
    let l = c.args.list.now in
    let short : length l < length (spans p) = omega (arith, c.count_spans-count.ensures, c.if-size-count.true) in
    let s = spans_short p held.valid l short in
    rw (sym c.in-Some.ensures) (rw c.count_spans-count.ensures (sym s.0), sym s.1)

pub loop-i-init : goal.loop-i-init
unfolding nth filled
loop-i-init c = (refl, refl)

pub unwrap-span-requires : goal.unwrap-span-requires
unwrap-span-requires c =
    let p = plan_lent c.in-Some.held.lent in
    let i = c.loop-i.i in
    let less : i < length (spans p) = omega (arith, c.count_spans-count.ensures, c.loop-i-test.true) in
    next_some _ c.span_from-next.ensures (λ e. omega (arith, less, count_ends p i (omega (arith, less)) (nth-none p i c.loop-i.invariant.0 e)))

pub loop-i-preserved : goal.loop-i-preserved
loop-i-preserved c =
    let p = plan_lent c.in-Some.held.lent in
    let i = c.loop-i.i in
    let is : c.span_from-next.result ≡ Some c.unwrap-span.result = search rules in
    let s = c.span_from-next.ensures.some _ is in
    let next : c.unwrap-span.result ≡ nth p (i + 1) = nth-from p i c.loop-i.invariant.0 s.0 ∙ ap (nth p) (sym (add-one i)) in
    (ap (λ (r : SpanRecord). r.last + 1) next, filled-next p c.args.list.now i c.loop-i.invariant.1 next)

pub returns : goal.returns
returns c =
    let held = c.in-Some.held in
    let p = plan_lent held.lent in
    let l = c.args.list.now in
    let all : c.loop-i.i ≡ length (spans p) = omega (arith, c.count_spans-count.ensures) in
    let fits : length (spans p) ≤ length l = omega (arith, c.count_spans-count.ensures, c.if-size-count.false) in
    let s = spans-listed p held.valid l fits in
    rw (sym c.in-Some.ensures) (rw c.count_spans-count.ensures (sym s.0), c.loop-i.invariant.1 ∙ ap (filled p l) all ∙ filled_all p held.valid l fits)
