-- `put_two` meets its contract: the tens, and what is left of them.
use Rattle.std.proofs.Common.{arith}
use Rattle.text_writing.specs.laws.Digits.{puts_two}
use Rattle.text_writing.proofs.number.put_two.Goals as goal

pub returns : goal.returns
returns c = puts_two _ _ (omega arith) (omega arith) (omega arith) c.put_byte-next.ensures c.put_byte.ensures
