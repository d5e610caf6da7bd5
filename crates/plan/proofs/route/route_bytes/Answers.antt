-- `route_bytes` meets its contract: what is left of the value behind its other numbers.
use mathlib.Core.Path.{sym}
use native.Mathlib.Omega.{arith}
use lib.ListN.{drop, drop_of_length-le, length-drop}
use lib.Seq.{take-length}
use Rattle.plan.proofs.route.route_bytes.Goals as goal

pub returns-then-value-start : goal.returns-then-value-start
returns-then-value-start c = sym (drop_of_length-le c.args.value.now {i = c.args.start} (omega arith))

pub returns : goal.returns
returns c =
    let v = c.args.value.now in
    let at = c.args.start in
    rw (← length-drop at v) (take-length (drop at v))
