-- `slot_size` meets its contract: each kind has its own size.
use native.Mathlib.Omega.{arith}
use Rattle.saving.specs.laws.Sizes.{slots_same}
use Rattle.saving.proofs.size.slot_size.Goals as goal

pub port_size-requires : goal.port_size-requires
port_size-requires c = (slots_same c.args.slot c.in-Port.is c.requires, omega arith)

pub flow_size-requires : goal.flow_size-requires
flow_size-requires c = (slots_same c.args.slot c.in-Flow.is c.requires, omega arith)

pub extra_size-requires : goal.extra_size-requires
extra_size-requires c = slots_same c.args.slot c.in-Extra.is c.requires

pub jitter_size-requires : goal.jitter_size-requires
jitter_size-requires c = slots_same c.args.slot c.in-Jitter.is c.requires

pub port_size-requires-in-Port2 : goal.port_size-requires-in-Port2
port_size-requires-in-Port2 c = (slots_same c.args.slot c.in-Port2.is c.requires, omega arith)

pub flow_size-requires-in-Flow2 : goal.flow_size-requires-in-Flow2
flow_size-requires-in-Flow2 c = (slots_same c.args.slot c.in-Flow2.is c.requires, omega arith)

pub returns-in-Header : goal.returns-in-Header
returns-in-Header c = rw c.in-Header.is

pub returns-in-Header2 : goal.returns-in-Header2
returns-in-Header2 c = rw c.in-Header2.is

pub returns-in-Port : goal.returns-in-Port
returns-in-Port c = rw c.in-Port.is c.port_size.ensures

pub returns-in-Flow : goal.returns-in-Flow
returns-in-Flow c = rw c.in-Flow.is c.flow_size.ensures

pub returns-in-Extra : goal.returns-in-Extra
returns-in-Extra c = rw c.in-Extra.is c.extra_size.ensures

pub returns-in-Jitter : goal.returns-in-Jitter
returns-in-Jitter c = rw c.in-Jitter.is c.jitter_size.ensures

pub returns-in-Clock : goal.returns-in-Clock
returns-in-Clock c = rw c.in-Clock.is c.clocks_size.ensures

pub returns-in-Port2 : goal.returns-in-Port2
returns-in-Port2 c = rw c.in-Port2.is c.port_size-in-Port2.ensures

pub returns-in-Flow2 : goal.returns-in-Flow2
returns-in-Flow2 c = rw c.in-Flow2.is c.flow_size-in-Flow2.ensures
