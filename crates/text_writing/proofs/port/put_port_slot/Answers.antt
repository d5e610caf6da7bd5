-- `put_port_slot` meets its contract, by whether the slot holds a port.
use Rattle.std.proofs.Common.{refl}
use Rattle.cqf.specs.Plan.{rate_of}
use Rattle.plan_text.specs.Print.{port_line}
use Rattle.tables.specs.Lent.{plan_lent}
use Rattle.text_writing.specs.laws.Lines.{port_written, puts_empty, puts_held}
use Rattle.text_writing.proofs.port.put_port_slot.Goals as goal

pub returns-then-rate-eq0 : goal.returns-then-rate-eq0
returns-then-rate-eq0 c =
    let p = plan_lent c.args.held.lent in
    puts_empty (port_line p c.args.slot) (rate_of p c.args.slot) c.if-rate-eq0.true

pub returns : goal.returns
returns c =
    let p = plan_lent c.args.held.lent in
    puts_held (port_line p c.args.slot) (rate_of p c.args.slot) c.if-rate-eq0.false (port_written p c.args.slot refl c.from-blocking.ensures c.from-extra.ensures) c.put_port.ensures
