use native.Mathlib.Omega.{arith}
use Rattle.cqf.proofs.laws.Ranges.{top_positive}
use Rattle.questions.specs.laws.LeanSearch.{safe_start, safe_first, safe_within, safe_next, safe_all, safe_above}
use Rattle.questions.proofs.lean_seek.lean_margin_safe.Goals as goal

pub loop-q-init : goal.loop-q-init
loop-q-init c = safe_start _

pub lower_port-safe-requires : goal.lower_port-safe-requires
lower_port-safe-requires c =
    let v = c.loop-q.invariant in
    (c.loop-q-test.true, safe_first v, safe_within v)

pub returns-then-limit-safe : goal.returns-then-limit-safe
returns-then-limit-safe c =
    safe_above (safe_next c.loop-q.invariant c.loop-q-test.true c.lower_port-safe.ensures) c.if-limit-safe.true (top_positive _ c.args.held.valid)

pub loop-q-preserved : goal.loop-q-preserved
loop-q-preserved c = safe_next c.loop-q.invariant c.loop-q-test.true c.lower_port-safe.ensures

pub returns : goal.returns
returns c = safe_all c.loop-q.invariant (omega arith) (top_positive _ c.args.held.valid)
