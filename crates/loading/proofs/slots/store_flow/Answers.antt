-- `store_flow` meets its contract.
use Rattle.cqf.specs.Limits.{flow_slots}
use Rattle.plan_reading.specs.Store.{store}
use Rattle.plan_reading.specs.laws.fields.Within.{within_low, slot_below, sublist_below}
use Rattle.loading.proofs.slots.store_flow.Goals as goal

pub overflow_sub-slot : goal.overflow_sub-slot
overflow_sub-slot c = within_low 1 flow_slots _ c.requires.numbers.number

pub bounds-tables-slot : goal.bounds-tables-slot
bounds-tables-slot c = slot_below flow_slots _ c.requires.numbers.number

pub bounds-tables-slot-2 : goal.bounds-tables-slot-2
bounds-tables-slot-2 c = slot_below flow_slots _ c.requires.numbers.number

pub bounds-tables-slot-3 : goal.bounds-tables-slot-3
bounds-tables-slot-3 c = slot_below flow_slots _ c.requires.numbers.number

pub bounds-tables-slot-4 : goal.bounds-tables-slot-4
bounds-tables-slot-4 c = slot_below flow_slots _ c.requires.numbers.number

pub store_route-requires : goal.store_route-requires
store_route-requires c = (sublist_below _ _ c.requires.numbers.number c.requires.numbers.hops, c.requires.route)

pub returns : goal.returns
unfolding store
returns c = rw (c.store_route.ensures, c.requires.route.hops)
