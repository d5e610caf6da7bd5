-- `line_at` meets its contract, by whether the line has an end.
use Rattle.std.proofs.Common.{arith, drop, length-drop}
use Rattle.words.specs.laws.Lines.{to_end, line_ended, line_last}
use Rattle.words.proofs.lines.line_at.Goals as goal

pub returns-then-stop-text : goal.returns-then-stop-text
returns-then-stop-text c =
    let text = c.args.text.now in
    let stop = to_end text c.args.at c.said_end-end.ensures c.line_end-stop.ensures in
    let size = length-drop c.args.at text in
    record {
      says = c.said_end-end.ensures;
      goes = omega (arith, stop, size, line_ended (drop c.args.at text) (omega (arith, stop, size)));
    }

pub returns-else-stop-text : goal.returns-else-stop-text
returns-else-stop-text c =
    let text = c.args.text.now in
    let stop = to_end text c.args.at c.said_end-end.ensures c.line_end-stop.ensures in
    record {
      says = c.said_end-end.ensures;
      goes = omega (arith, stop, line_last (drop c.args.at text) (omega (arith, stop, length-drop c.args.at text)));
    }
