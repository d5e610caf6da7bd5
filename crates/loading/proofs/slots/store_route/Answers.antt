-- `store_route` meets its contract.
use Prim.Native.Nat.{◌<◌}
use mathlib.Core.Path.{◌≡◌}
use native.Mathlib.Omega.{arith}
use lib.ListN.{length}
use lib.Seq.{take-length}
use Rattle.plan.specs.Field.{route_ports, route_port}
use Rattle.plan.specs.laws.Route.{route_length_lem}
use Rattle.loading.specs.laws.Copy.{sets_take}
use Rattle.loading.proofs.slots.store_route.Goals as goal

pub low_byte-requires : goal.low_byte-requires
low_byte-requires c = (omega (arith, route_length_lem c.args.route.now, c.requires.1.hops), c.requires.1.ports)

pub loop-i-preserved : goal.loop-i-preserved
unfolding route_port
loop-i-preserved c =
    let inside : c.loop-i.i < length (route_ports c.args.route.now) = omega (arith, c.requires.1.hops) in
    rw (c.loop-i.invariant, c.low_byte.ensures, sets_take _ _ _ _ inside)

pub returns : goal.returns
returns c =
    let e : c.loop-i.i ≡ length (route_ports c.args.route.now) = omega (arith, c.requires.1.hops) in
    rw (c.loop-i.invariant, e, take-length)
