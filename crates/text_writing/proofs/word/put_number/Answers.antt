-- `put_number` meets its contract: a space, and the digits.
use Rattle.text_writing.specs.laws.Puts.{Puts-then}
use Rattle.text_writing.proofs.word.put_number.Goals as goal

pub returns : goal.returns
returns c = Puts-then c.put_byte-next.ensures c.put_decimal.ensures
