-- `put_flow_slot` meets its contract, by whether the slot holds a flow.
use Rattle.std.proofs.Common.{refl, arith}
use Rattle.cqf.specs.Plan.{period_of}
use Rattle.plan_text.specs.Print.{flow_line}
use Rattle.tables.specs.Lent.{plan_lent}
use Rattle.text_writing.specs.laws.Lines.{puts_empty, puts_held}
use Rattle.text_writing.specs.laws.Flow.{flow_written}
use Rattle.text_writing.proofs.flow.put_flow_slot.Goals as goal

pub returns-then-period-eq0 : goal.returns-then-period-eq0
returns-then-period-eq0 c =
    let p = plan_lent c.args.held.lent in
    puts_empty (flow_line p c.args.slot) (period_of p c.args.slot) c.if-period-eq0.true

pub returns : goal.returns
returns c =
    let p = plan_lent c.args.held.lent in
    puts_held (flow_line p c.args.slot) (period_of p c.args.slot) c.if-period-eq0.false (flow_written p c.args.slot refl c.from.ensures c.from-2.ensures (c.route.ensures.route (omega arith))) c.put_flow.ensures
