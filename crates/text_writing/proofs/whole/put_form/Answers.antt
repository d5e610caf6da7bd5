-- `put_form` meets its contract, by the form.
use Rattle.std.proofs.Common.{sym}
use Rattle.text_writing.specs.laws.Puts.{puts_none, puts_as}
use Rattle.text_writing.specs.laws.Whole.{form_none, form_line_lem}
use Rattle.text_writing.proofs.whole.put_form.Goals as goal

pub returns-in-Older : goal.returns-in-Older
returns-in-Older c = rw c.in-Older.is (puts_as (sym form_none) (puts_none _ _ _))

pub returns-in-Newer : goal.returns-in-Newer
returns-in-Newer c = rw c.in-Newer.is (puts_as (sym form_line_lem) c.put_line.ensures)
