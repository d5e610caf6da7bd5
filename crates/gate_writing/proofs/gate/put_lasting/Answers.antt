-- `put_lasting` meets its contract, by whether the interval is 0.
use Rattle.gate_writing.specs.laws.List.{put-none, put_some}
use Rattle.gate_writing.proofs.gate.put_lasting.Goals as goal

pub returns-then-interval-ne0 : goal.returns-then-interval-ne0
returns-then-interval-ne0 c = let a = c.args in put_some a.states a.interval a.out.now c.if-interval-ne0.true c.put_gate.ensures

pub returns-else-interval-ne0 : goal.returns-else-interval-ne0
returns-else-interval-ne0 c = let a = c.args in put-none a.states a.interval a.out.now c.if-interval-ne0.false
