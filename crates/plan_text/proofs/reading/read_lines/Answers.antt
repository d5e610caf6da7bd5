-- `read_lines` meets its contract.
use Rattle.std.proofs.Common.{arith, refl, sym, subst, ◌∙◌}
use Rattle.plan_text.specs.Text.{Draft}
use Rattle.plan_text.specs.Drafting.{draft_of}
use Rattle.plan_text.specs.laws.TextLines.{Reached, reached_first, line_inside, line_onward, reached_more, reached_stop, read_end, text_long, text_short}
use Rattle.plan_text.proofs.reading.read_lines.Goals as goal

pub returns-then-text-gt-MAX_TEXT : goal.returns-then-text-gt-MAX_TEXT
returns-then-text-gt-MAX_TEXT c = rw (c.at_line.ensures, c.refused.ensures) (sym (text_long c.args.text.now c.if-text-gt-MAX_TEXT.true))

pub loop-at-init : goal.loop-at-init
loop-at-init c = subst (λ (d : Draft). Reached c.args.text.now d 1 0) (sym c.requires) (reached_first c.args.text.now)

pub slice_bounds-line_step-start : goal.slice_bounds-line_step-start
slice_bounds-line_step-start c =
    let within = line_inside c.args.text.now c.loop-at.at c.loop-at-test.true c.line_at-line.ensures in
    omega (arith, within.0, within.1)

pub slice_bounds-line_step-end : goal.slice_bounds-line_step-end
slice_bounds-line_step-end c =
    let within = line_inside c.args.text.now c.loop-at.at c.loop-at-test.true c.line_at-line.ensures in
    omega (arith, within.0, within.1)

pub overflow_add-number : goal.overflow_add-number
overflow_add-number c = omega (arith, c.loop-at.invariant.few, c.loop-at-test.true, c.if-text-gt-MAX_TEXT.false)

pub loop-at-smaller : goal.loop-at-smaller
loop-at-smaller c =
    let onward = line_onward c.args.text.now c.loop-at.at c.loop-at-test.true c.line_at-line.ensures in
    omega (arith, onward.0, onward.1)

pub loop-at-preserved : goal.loop-at-preserved
loop-at-preserved c =
    let l = c.loop-at in
    reached_more c.args.text.now (draft_of l.draft) l.number l.at l.invariant c.loop-at-test.true c.line_at-line.ensures c.in_default.ensures refl

pub returns-in-Err : goal.returns-in-Err
returns-in-Err c =
    let l = c.loop-at in
    rw c.at_line-in-Err.ensures
    (sym (text_short c.args.text.now c.if-text-gt-MAX_TEXT.false
    ∙ reached_stop c.args.text.now (draft_of l.draft) l.number l.at l.invariant c.loop-at-test.true c.line_at-line.ensures c.in-Err.ensures refl))

pub close-requires : goal.close-requires
close-requires c = λ f less. c.loop-at.invariant.hops f less

pub returns : goal.returns
returns c =
    let l = c.loop-at in
    sym (text_short c.args.text.now c.if-text-gt-MAX_TEXT.false
    ∙ l.invariant.rest
    ∙ read_end (draft_of l.draft) l.number c.args.text.now l.at c.loop-at-test.false
    ∙ sym c.close.ensures)
