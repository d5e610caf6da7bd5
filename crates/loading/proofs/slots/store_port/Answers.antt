-- `store_port` meets its contract.
use Rattle.cqf.specs.Limits.{port_slots}
use Rattle.plan_reading.specs.laws.fields.Within.{within_low, slot_below}
use Rattle.loading.proofs.slots.store_port.Goals as goal

pub overflow_sub-slot : goal.overflow_sub-slot
overflow_sub-slot c = within_low 1 port_slots _ c.requires.number

pub bounds-tables-slot : goal.bounds-tables-slot
bounds-tables-slot c = slot_below port_slots _ c.requires.number

pub bounds-tables-slot-2 : goal.bounds-tables-slot-2
bounds-tables-slot-2 c = slot_below port_slots _ c.requires.number
