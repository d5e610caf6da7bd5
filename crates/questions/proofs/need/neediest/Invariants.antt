-- `questions::need::neediest` meets its contract. The loop's invariant: of the ports passed the one in slot at needs most.
use Rattle.questions.specs.PortSearch.{need_in}
use Rattle.questions.specs.laws.Neediest.{Neediest}
use Rattle.questions.proofs.need.neediest.Given as goal

abbrev pub invariant-loop-q : goal.invariant-loop-q
invariant-loop-q l = Neediest (need_in l.lent.guard l.lent.rates.now l.lent.blockings.now l.lent.extras.now l.demands) l.q l.most l.at
