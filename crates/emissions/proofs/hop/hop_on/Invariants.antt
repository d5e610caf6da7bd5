-- `hop_on` meets its contract. The loop's invariant: the port is none of those passed.
use Rattle.emissions.specs.laws.Hops.{NotBefore}
use Rattle.emissions.proofs.hop.hop_on.Given as goal

abbrev pub invariant-loop-i : goal.invariant-loop-i
invariant-loop-i l = NotBefore l.route l.q l.i
