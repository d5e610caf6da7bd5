-- `match_items` meets its contract, number by number.
use Rattle.std.proofs.Common.{arith, ap, length}
use Rattle.plan_text.specs.laws.Line.{items_most}
use Rattle.plan_text.specs.laws.Matching.{so_far_none, so_far_wrong, so_far_more, so_far_all}
use Rattle.plan_text.proofs.line.match_items.Goals as goal

pub loop-i-init : goal.loop-i-init
loop-i-init c = so_far_none c.args.kind c.args.line.now c.args.at c.args.numbers.now c.requires.0

pub returns-in_default : goal.returns-in_default
returns-in_default c =
    let l = c.loop-i in
    so_far_wrong c.args.kind c.args.line.now c.args.at l.numbers l.next l.i l.invariant c.item_at-item.result c.item_at-item.ensures (omega (arith, ap length c.items-i-end.ensures)) c.in_default.ensures

pub loop-i-preserved : goal.loop-i-preserved
loop-i-preserved c =
    let l = c.loop-i in
    so_far_more c.args.kind c.args.line.now c.args.at l.numbers l.next l.i l.invariant c.item_at-item.result c.item_at-item.ensures (omega (arith, ap length c.items-i-end.ensures))
    (omega (arith, items_most c.args.kind, ap length c.items-i-end.ensures, c.requires.1)) c.in-Some.ensures

pub returns : goal.returns
returns c =
    let l = c.loop-i in
    so_far_all c.args.kind c.args.line.now c.args.at l.numbers l.next l.i (omega (arith, ap length c.items-i-end.ensures)) l.invariant
