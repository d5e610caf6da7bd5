-- `put_first` meets its contract: the word, and the number behind it.
use Rattle.text_writing.specs.laws.Puts.{Puts-then}
use Rattle.text_writing.proofs.word.put_first.Goals as goal

pub returns : goal.returns
returns c = Puts-then c.put_bytes-next.ensures c.put_number.ensures
