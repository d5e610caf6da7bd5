-- `put_ports` meets its contract.
use Rattle.std.proofs.Common.{◌≡◌, arith}
use Rattle.cqf.specs.Limits.{port_slots}
use Rattle.text_writing.specs.Bytes.{most_port}
use Rattle.text_writing.specs.laws.Lines.{slots_none, slots_next}
use Rattle.text_writing.proofs.port.put_ports.Goals as goal

pub loop-slot-init : goal.loop-slot-init
loop-slot-init c = slots_none _

pub put_port_slot-next-requires : goal.put_port_slot-next-requires
put_port_slot-next-requires c = (omega arith, omega (arith, c.loop-slot.invariant.size, c.loop-slot.invariant.few))

pub loop-slot-preserved : goal.loop-slot-preserved
loop-slot-preserved c = slots_next _ most_port c.loop-slot.slot c.loop-slot.invariant c.put_port_slot-next.ensures

pub returns : goal.returns
returns c =
    let all : c.loop-slot.slot ≡ port_slots = omega arith in
    rw all at c.loop-slot.invariant
