-- `put_route` meets its contract.
use Rattle.std.proofs.Common.{arith}
use Rattle.text_writing.specs.laws.Flow.{hops_none, hops_next, hops_all}
use Rattle.text_writing.proofs.flow.put_route.Goals as goal

pub loop-port-init : goal.loop-port-init
loop-port-init c = record { written = hops_none c.args.route.now }

pub loop-port-preserved : goal.loop-port-preserved
loop-port-preserved c =
    let l = c.loop-port in
    let low = c.type_inv.route l.port-index in
    record { written = hops_next c.args.route.now l.port-index (omega arith) c.from.ensures (omega (arith, c.from.ensures, low)) l.invariant.written c.put_number-next.ensures }

pub returns : goal.returns
returns c = hops_all c.args.route.now c.loop-port.port-index (omega arith) c.loop-port.invariant.written
