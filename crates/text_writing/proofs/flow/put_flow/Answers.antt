-- `put_flow` meets its contract: the numbers, and the route behind them.
use Rattle.std.proofs.Common.{arith}
use Rattle.text_writing.specs.Bytes.{most_flow}
use Rattle.text_writing.specs.laws.Puts.{Puts-then, puts_few}
use Rattle.text_writing.proofs.flow.put_flow.Goals as goal

pub returns : goal.returns
returns c =
    let all = Puts-then (Puts-then (Puts-then c.put_flow_numbers-numbered.ensures c.put_bytes-begun.ensures) c.put_route-routed.ensures) c.put_end.ensures in
    puts_few most_flow (omega (arith, all.few, c.requires.1)) all
