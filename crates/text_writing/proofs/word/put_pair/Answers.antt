-- `put_pair` meets its contract: a space, and the word with its number.
use Rattle.text_writing.specs.laws.Puts.{Puts-then}
use Rattle.text_writing.proofs.word.put_pair.Goals as goal

pub returns : goal.returns
returns c = Puts-then c.put_byte-next.ensures c.put_first.ensures
