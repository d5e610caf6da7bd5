-- The invariant of `put_route`: the ports passed are written.
use Rattle.std.proofs.Common.{◌*◌, map, take}
use Rattle.plan_text.specs.Print.{digits}
use Rattle.text_writing.specs.Puts.{Puts}
use Rattle.text_writing.specs.Bytes.{spaced, most_hop}
use Rattle.text_writing.proofs.flow.put_route.Given as goal

abbrev pub invariant-loop-port : goal.invariant-loop-port
invariant-loop-port l = record {
  written : Puts (most_hop * l.port-index) (spaced (map digits (take l.port-index l.route))) l.initial.out l.at l.next l.out;
}
