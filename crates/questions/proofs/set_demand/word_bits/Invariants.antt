-- `questions::set_demand::word_bits` meets its contract. Round the loop the flows below bit i are counted.
use Prim.Native.Nat.{◌-◌}
use Rattle.questions.specs.FlowSet.{word_slots, flow_bits}
use Rattle.questions.specs.laws.WordBits.{Counted}
use Rattle.questions.proofs.set_demand.word_bits.Given as goal

abbrev pub invariant-loop-rest : goal.invariant-loop-rest
invariant-loop-rest l = Counted (flow_bits l.lent.periods.now l.lent.counts.now l.lent.lengths.now l.lent.jitters.now l.extra l.over) l.word l.base l.i l.rest l.bits

abbrev pub decreases-loop-rest : goal.decreases-loop-rest
decreases-loop-rest l = word_slots - l.i
