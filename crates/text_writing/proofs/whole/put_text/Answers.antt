-- `put_text` meets its contract: each line behind those before it.
use Rattle.std.proofs.Common.{sym}
use Rattle.plan.specs.Answer.{form_of}
use Rattle.tables.specs.Lent.{plan_lent}
use Rattle.text_writing.specs.laws.Puts.{Puts-then, puts_as}
use Rattle.text_writing.specs.laws.Whole.{text_lines}
use Rattle.text_writing.proofs.whole.put_text.Goals as goal

pub returns : goal.returns
returns c =
    let head = Puts-then (Puts-then c.put_form-formed.ensures c.put_line-guarded.ensures) c.put_line-topped.ensures in
    puts_as (sym (text_lines (form_of c.args.form) (plan_lent c.args.held.lent))) (Puts-then (Puts-then (Puts-then head c.put_ports-ported.ensures) c.put_flows-flowing.ensures) c.put_clocks.ensures)
