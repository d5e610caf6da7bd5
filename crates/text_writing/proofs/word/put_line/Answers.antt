-- `put_line` meets its contract: the word with its number, and the line's end.
use Rattle.std.proofs.Common.{sym}
use Rattle.text_writing.specs.laws.Bytes.{line_pair}
use Rattle.text_writing.specs.laws.Puts.{Puts-then, puts_as}
use Rattle.text_writing.proofs.word.put_line.Goals as goal

pub returns : goal.returns
returns c = puts_as (sym (line_pair c.args.word.now c.args.n)) (Puts-then c.put_first-next.ensures c.put_end.ensures)
