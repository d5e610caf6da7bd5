-- `item_number` meets its contract, by whether the number stands there and whether it may be left out.
use Rattle.std.proofs.Common.{sym, drop}
use Rattle.words.specs.Words.{words}
use Rattle.plan_text.specs.laws.Line.{read_there, read_absent, read_wrong}
use Rattle.plan_text.proofs.line.item_number.Goals as goal

pub returns-in-Some : goal.returns-in-Some
returns-in-Some c = read_there c.args.item c.args.line.now (words (drop c.args.at c.args.line.now)) c.in-Some.ensures

pub returns-in_err-value : goal.returns-in_err-value
returns-in_err-value c =
    rw c.from_residual.ensures (read_wrong c.args.item c.args.line.now (words (drop c.args.at c.args.line.now)) c.in_default.ensures (sym c.in_err-value.ensures))

pub returns : goal.returns
returns c = read_absent c.args.item c.args.line.now c.args.at c.requires c.in_default.ensures (sym c.in_ok-value.ensures)
