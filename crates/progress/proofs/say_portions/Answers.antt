-- Past a portion that came to no end the steps are further on.
use Rattle.std.proofs.Common.{arith}
use Rattle.progress.specs.laws.Portions.{reached_start, reached_few, reached_next}
use Rattle.progress.proofs.say_portions.Goals as goal

pub loop-duration-init : goal.loop-duration-init
loop-duration-init g c = reached_start _ c.args.held.valid

pub loop-duration-smaller : goal.loop-duration-smaller
loop-duration-smaller g c =
    let further = reached_next c.loop-duration.invariant (rw c.in-Err-Unfinished.field-0-is at c.in-Err-Unfinished.ensures) in
    omega (arith, further.1, reached_few further.0)

pub loop-duration-preserved : goal.loop-duration-preserved
loop-duration-preserved g c = (reached_next c.loop-duration.invariant (rw c.in-Err-Unfinished.field-0-is at c.in-Err-Unfinished.ensures)).0
