-- `be16` meets its contract: the library's number of two bytes is this one.
use Rattle.plan.specs.Bytes.{number2}
use Rattle.plan.proofs.number.be16.Goals as goal

pub returns : goal.returns
unfolding number2
returns c = c.from_be_bytes.ensures
