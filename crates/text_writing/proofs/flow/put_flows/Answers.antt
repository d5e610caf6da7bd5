-- `put_flows` meets its contract.
use Rattle.std.proofs.Common.{◌≡◌, arith}
use Rattle.cqf.specs.Limits.{flow_slots}
use Rattle.text_writing.specs.Bytes.{most_flow}
use Rattle.text_writing.specs.laws.Lines.{slots_none, slots_next}
use Rattle.text_writing.proofs.flow.put_flows.Goals as goal

pub loop-slot-init : goal.loop-slot-init
loop-slot-init c = slots_none _

pub put_flow_slot-next-requires : goal.put_flow_slot-next-requires
put_flow_slot-next-requires c = (omega arith, omega (arith, c.loop-slot.invariant.size, c.loop-slot.invariant.few))

pub loop-slot-preserved : goal.loop-slot-preserved
loop-slot-preserved c = slots_next _ most_flow c.loop-slot.slot c.loop-slot.invariant c.put_flow_slot-next.ensures

pub returns : goal.returns
returns c =
    let all : c.loop-slot.slot ≡ flow_slots = omega arith in
    rw all at c.loop-slot.invariant
