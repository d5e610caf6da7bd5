-- `low_byte` meets its contract: a number of two bytes that is at most 64 is its low byte.
use native.Mathlib.Omega.{arith}
use lib.ListN.{get_or}
use Rattle.cqf.specs.Limits.{port_slots, port_ok}
use Rattle.cqf.proofs.laws.Lists.{every-at}
use Rattle.plan.specs.Bytes.{number2}
use Rattle.plan.specs.Field.{route_ports, route_port}
use Rattle.plan.specs.laws.Route.{route_length_lem, route_at}
use Rattle.plan_reading.specs.laws.fields.Within.{within_high}
use Rattle.loading.proofs.repeat.low_byte.Goals as goal

pub returns : goal.returns
unfolding route_port number2
returns c =
    let s = c.before in
    let v = s.args.route.now in
    let i = s.args.i in
    let ok = every-at port_ok (route_ports v) s.requires.1 i (omega (arith, route_length_lem v, s.requires.0)) in
    omega (arith, route_at v i s.requires.0, within_high 1 port_slots (get_or (route_ports v) i 0) ok)
