-- `put_slot` meets its contract: each kind has its field.
use mathlib.Core.Path.{refl}
use mathlib.Core.Bool.{true}
use Rattle.tables.specs.Lent.{plan_lent}
use Rattle.saving.specs.declared.kind.Kind.{Kind}
use Rattle.saving.specs.Slots.{field_in}
use Rattle.saving.specs.laws.Slots.{test_one}
use Rattle.saving.specs.laws.Sizes.{slots_same}
use Rattle.saving.proofs.slots.put_slot.Goals as goal

pub put_port_slot-requires : goal.put_port_slot-requires
put_port_slot-requires c = slots_same c.args.slot c.in-Port.is c.requires

pub put_flow_slot-requires : goal.put_flow_slot-requires
put_flow_slot-requires c = slots_same c.args.slot c.in-Flow.is c.requires

pub put_extra_slot-requires : goal.put_extra_slot-requires
put_extra_slot-requires c = slots_same c.args.slot c.in-Extra.is c.requires

pub put_jitter_slot-requires : goal.put_jitter_slot-requires
put_jitter_slot-requires c = slots_same c.args.slot c.in-Jitter.is c.requires

pub put_port2_slot-requires : goal.put_port2_slot-requires
put_port2_slot-requires c = slots_same c.args.slot c.in-Port2.is c.requires

pub put_flow2_slot-requires : goal.put_flow2_slot-requires
put_flow2_slot-requires c = slots_same c.args.slot c.in-Flow2.is c.requires

pub returns-in-Header : goal.returns-in-Header
returns-in-Header c = rw c.in-Header.is (test_one (field_in Kind.Header (plan_lent c.args.held.lent) 0) c.args.out.now true refl c.put_header.ensures)

pub returns-in-Header2 : goal.returns-in-Header2
returns-in-Header2 c = rw c.in-Header2.is (test_one (field_in Kind.Header2 (plan_lent c.args.held.lent) 0) c.args.out.now true refl c.put_header2.ensures)

pub returns-in-Port : goal.returns-in-Port
returns-in-Port c = rw c.in-Port.is c.put_port_slot.ensures

pub returns-in-Flow : goal.returns-in-Flow
returns-in-Flow c = rw c.in-Flow.is c.put_flow_slot.ensures

pub returns-in-Extra : goal.returns-in-Extra
returns-in-Extra c = rw c.in-Extra.is c.put_extra_slot.ensures

pub returns-in-Jitter : goal.returns-in-Jitter
returns-in-Jitter c = rw c.in-Jitter.is c.put_jitter_slot.ensures

pub returns-in-Port2 : goal.returns-in-Port2
returns-in-Port2 c = rw c.in-Port2.is c.put_port2_slot.ensures

pub returns-in-Flow2 : goal.returns-in-Flow2
returns-in-Flow2 c = rw c.in-Flow2.is c.put_flow2_slot.ensures

pub returns-in-Clock : goal.returns-in-Clock
returns-in-Clock c = rw c.in-Clock.is c.put_clocks.ensures
