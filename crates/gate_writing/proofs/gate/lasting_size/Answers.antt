-- `lasting_size` meets its contract, by whether the interval is 0.
use native.Mathlib.Omega.{arith}
use borrow.Author.Tests.{lt-ltb, le-ltb}
use Rattle.gate_writing.proofs.gate.lasting_size.Goals as goal

pub returns-then-interval-eq0 : goal.returns-then-interval-eq0
returns-then-interval-eq0 c = rw (le-ltb 0 c.args.interval (omega arith))

pub returns-else-interval-eq0 : goal.returns-else-interval-eq0
returns-else-interval-eq0 c = rw (lt-ltb 0 c.args.interval (omega arith))
