-- `store_jitter` meets its contract.
use Rattle.cqf.specs.Limits.{flow_slots}
use Rattle.plan_reading.specs.laws.fields.Within.{within_low, slot_below}
use Rattle.loading.proofs.slots.store_jitter.Goals as goal

pub overflow_sub-slot : goal.overflow_sub-slot
overflow_sub-slot c = within_low 1 flow_slots _ c.requires.number

pub bounds-tables-slot : goal.bounds-tables-slot
bounds-tables-slot c = slot_below flow_slots _ c.requires.number
