-- `questions::set_demand::set_need` meets its contract.
use native.Mathlib.Nat.{le_trans, le_of_eq}
use native.Mathlib.Omega.{arith}
use Rattle.questions.specs.laws.FlowSets.{countable_set}
use Rattle.questions.proofs.set_demand.set_need.Goals as goal

pub need-requires : goal.need-requires
need-requires c =
    let r = c.requires.extra_le_max_extra in
    (le_trans (le_of_eq c.set_demand-bits.ensures) (countable_set r.1 r.2 c.requires.set_countable), λ l. c.requires.rate_nonzero (omega (arith, l, c.set_demand-bits.ensures)))
