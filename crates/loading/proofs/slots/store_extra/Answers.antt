-- `store_extra` meets its contract.
use native.Mathlib.Omega.{arith}
use Rattle.cqf.specs.Limits.{port_slots, max_extra}
use Rattle.plan_reading.specs.laws.fields.Within.{within_low, within_high, slot_below}
use Rattle.loading.proofs.slots.store_extra.Goals as goal

pub overflow_sub-slot : goal.overflow_sub-slot
overflow_sub-slot c = within_low 1 port_slots _ c.requires.number

pub overflow_cast-tables : goal.overflow_cast-tables
overflow_cast-tables c = omega (arith, within_high 0 max_extra c.args.x.extra c.requires.bytes)

pub bounds-tables-slot : goal.bounds-tables-slot
bounds-tables-slot c = slot_below port_slots _ c.requires.number
