use mathlib.Core.Path.{◌≡◌}
use mathlib.Core.Bool.{false}
use Prim.Native.Nat.{ℕ, ◌≤◌, ◌<◌}
use native.Mathlib.Nat.{le_refl}
use native.Mathlib.Omega.{arith}
use Rattle.cqf.specs.Limits.{port_slots}
use Rattle.cqf.specs.Condition.{fails}
use Rattle.tables.specs.Lent.{plan_lent}
use Rattle.questions.specs.PortSearch.{Raised}
use Rattle.questions.specs.laws.LeanSearch.{reached_start, reached_first, reached_least, reached_stays, reached_next, reached_above, turn_start, turn_next, turn_all}
use Rattle.questions.proofs.lean_seek.lean_least.Goals as goal
use Rattle.questions.proofs.lean_seek.lean_least.Goals.{else-ports-test, then-ports-test+then-t-reached}

pub loop-reached-init : goal.loop-reached-init
loop-reached-init c = (reached_start _ c.args.held.valid, omega arith)

pub ports-init : goal.ports-init
ports-init c = (turn_start _ _ _ c.loop-reached.invariant.1, le_refl _)

pub raise_port-reached-requires : goal.raise_port-reached-requires
raise_port-reached-requires c = (c.ports.invariant.0.slot, reached_first c.loop-reached.invariant.0)

pub overflow_add-q : goal.overflow_add-q
overflow_add-q c = omega (arith, c.ports.invariant.0.slot)

pub ports-preserved : goal.ports-preserved
ports-preserved c =
    let stays : c.raise_port-reached.result ≤ c.loop-reached.t = omega (arith, c.if-t-reached.false) in
    (turn_next c.ports.invariant.0 (reached_stays c.loop-reached.invariant.0 c.raise_port-reached.ensures stays), stays)

pub returns : goal.returns
returns c =
    let none : (k : ℕ) → k < port_slots → fails (plan_lent c.args.held.lent) c.loop-reached.t k ≡ false =
    elim c.ports-test.branch [
      | else-ports-test w ↦ turn_all c.ports.invariant.0 (omega (arith, w.ports-test.false))
      | then-ports-test+then-t-reached w ↦ absurd (omega (arith, w.reached-is, w.if-t-reached.true, c.if-reached-t.true))
    ] in
    reached_least c.loop-reached.invariant.0 none

pub returns-then-limit-reached : goal.returns-then-limit-reached
returns-then-limit-reached c =
    -- the port that got further
    let raised : (k : ℕ) × Raised (plan_lent c.args.held.lent) k c.loop-reached.t c.ports-test.reached =
    elim c.ports-test.branch [
      | else-ports-test w ↦ absurd (omega (arith, w.reached-is, c.ports.invariant.1, c.if-reached-t.false))
      | then-ports-test+then-t-reached w ↦ (c.ports.q, rw w.reached-is w.raise_port-reached.ensures)
    ] in
    reached_above c.loop-reached.invariant.0 raised.1 c.if-limit-reached.true

pub loop-reached-smaller : goal.loop-reached-smaller
loop-reached-smaller c = omega (arith, c.loop-reached.invariant.0.within, c.if-reached-t.false)

pub loop-reached-preserved : goal.loop-reached-preserved
loop-reached-preserved c =
    let raised : (k : ℕ) × Raised (plan_lent c.args.held.lent) k c.loop-reached.t c.ports-test.reached =
    elim c.ports-test.branch [
      | else-ports-test w ↦ absurd (omega (arith, w.reached-is, c.ports.invariant.1, c.if-reached-t.false))
      | then-ports-test+then-t-reached w ↦ (c.ports.q, rw w.reached-is w.raise_port-reached.ensures)
    ] in
    let slot : c.ports-test.q < port_slots =
    elim c.ports-test.branch [
      | else-ports-test w ↦ absurd (omega (arith, w.reached-is, c.ports.invariant.1, c.if-reached-t.false))
      | then-ports-test+then-t-reached w ↦ omega (arith, w.q-is)
    ] in
    (reached_next c.loop-reached.invariant.0 raised.1 (omega (arith, c.if-limit-reached.false)), slot)
