use mathlib.Core.Path.{◌≡◌, refl, sym, ◌∙◌}
use mathlib.Core.Bool.{false}
use Prim.Native.Nat.{ℕ, ◌<◌}
use native.Mathlib.Omega.{arith}
use Rattle.std.proofs.Common.{true≢false}
use Rattle.cqf.specs.Limits.{port_slots}
use Rattle.cqf.specs.Condition.{fails}
use Rattle.cqf.specs.Need.{largest_need}
use Rattle.tables.specs.Lent.{plan_lent}
use Rattle.questions.specs.laws.LeanSearch.{reached_start, reached_first, reached_least, reached_further, reached_next, reached_above}
use Rattle.questions.specs.laws.Neediest.{neediest_fails}
use Rattle.questions.specs.laws.PortTest.{one_fails, none_fails, passed_next}
use Rattle.questions.specs.laws.Scratch.{filled_by, filled_length, filled_short, filled_most, filled-served}
use Rattle.questions.proofs.ascend.ascend.Goals as goal
use Rattle.questions.proofs.ascend.ascend.Goals.{else-ports-test, then-ports-test+then-held_fails}

pub loop-q-init : goal.loop-q-init
loop-q-init c = (c.requires, reached_start _ c.args.held.valid)

pub ports-init : goal.ports-init
ports-init c = (λ k l. absurd (omega (arith, l)), refl)

pub bounds-out-q : goal.bounds-out-q
bounds-out-q c =
    omega (arith, filled_length (filled_by c.args.held.valid c.loop-q.invariant.1.within c.demands.ensures), c.ports-test.true)

pub held_fails-requires : goal.held_fails-requires
held_fails-requires c =
    let full = filled_by c.args.held.valid c.loop-q.invariant.1.within c.demands.ensures in
    (omega (arith, c.window-available.ensures, filled_short full), filled_most full _ c.ports-test.true)

pub ports-preserved : goal.ports-preserved
ports-preserved c = (passed_next c.ports.invariant.0 (sym c.held_fails.ensures ∙ c.if-held_fails.false), c.ports.invariant.1)

pub neediest-worst-requires-clause-by_index : goal.neediest-worst-requires-clause-by_index
neediest-worst-requires-clause-by_index c =
    let full = filled_by c.args.held.valid c.loop-q.invariant.1.within c.demands.ensures in
    λ q l. (filled_most full q l, filled-served full q l)

pub raise_port-reached-requires : goal.raise_port-reached-requires
raise_port-reached-requires c = (c.neediest-worst.ensures.inside, reached_first c.loop-q.invariant.1)

pub returns-then-limit-reached : goal.returns-then-limit-reached
returns-then-limit-reached c =
    record {
      is = reached_above c.loop-q.invariant.1 c.raise_port-reached.ensures c.if-limit-reached.true;
      demands = λ l. absurd (omega (arith, l));
    }

pub loop-q-smaller : goal.loop-q-smaller
loop-q-smaller c =
    let s = c.loop-q.invariant.1 in
    let full = filled_by c.args.held.valid s.within c.demands.ensures in
    let more : c.loop-q.t < largest_need (plan_lent c.args.held.lent) c.loop-q.t =
    elim c.ports-test.branch [
      | else-ports-test w ↦ absurd (true≢false (sym c.ports.invariant.1 ∙ sym w.passes-is ∙ c.if-passes.false))
      | then-ports-test+then-held_fails w ↦ one_fails full (reached_first s) c.window-available.ensures c.ports.q w.ports-test.true (sym w.held_fails.ensures ∙ w.if-held_fails.true)
    ] in
    -- the port that needs most fails
    let worst = neediest_fails full more c.neediest-worst.ensures.inside c.neediest-worst.ensures.here in
    omega (arith, s.within, reached_further s c.raise_port-reached.ensures worst)

pub loop-q-preserved : goal.loop-q-preserved
loop-q-preserved c =
    let s = c.loop-q.invariant.1 in
    (filled_length (filled_by c.args.held.valid s.within c.demands.ensures), reached_next s c.raise_port-reached.ensures (omega (arith, c.if-limit-reached.false)))

pub returns : goal.returns
returns c =
    let s = c.loop-q.invariant.1 in
    let full = filled_by c.args.held.valid s.within c.demands.ensures in
    let none : (k : ℕ) → k < port_slots → fails (plan_lent c.args.held.lent) c.loop-q.t k ≡ false =
    elim c.ports-test.branch [
      | else-ports-test w ↦ none_fails full (reached_first s) c.window-available.ensures (λ k l. c.ports.invariant.0 k (omega (arith, l, w.ports-test.false)))
      | then-ports-test+then-held_fails w ↦ absurd (true≢false (sym c.if-passes.true ∙ w.passes-is))
    ] in
    record { is = reached_least s none; demands = λ _. c.demands.ensures }
