use mathlib.Core.Path.{◌≡◌, refl, sym, ap, subst, ◌∙◌}
use Prim.Native.Nat.{◌<◌}
use native.Mathlib.Omega.{arith}
use Rattle.std.proofs.Common.{true≢false}
use Rattle.cqf.specs.Need.{largest_need}
use Rattle.tables.specs.Lent.{plan_lent}
use Rattle.questions.specs.FixedPoint.{outcome_answer}
use Rattle.questions.specs.laws.Iteration.{Stepped, stepped_start, steps_end, step_settles, step_exceeds, step_rises}
use Rattle.questions.specs.laws.PortTest.{one_fails, none_settles, passed_next}
use Rattle.questions.specs.laws.Scratch.{Filled, filled_by, filled_length, filled_short, filled_most, filled-served, filled-largest}
use Rattle.questions.proofs.iteration.iterate.Goals as goal
use Rattle.questions.proofs.iteration.iterate.Goals.{else-ports-test, then-ports-test+then-held_fails}

pub loop-used-init : goal.loop-used-init
loop-used-init c = (refl, stepped_start _ _ _ c.requires.0 c.requires.1)

pub returns-then-steps-used : goal.returns-then-steps-used
returns-then-steps-used c = ap (outcome_answer (plan_lent c.args.held.lent) c.args.steps) (steps_end c.loop-used.invariant.1 (omega (arith, c.if-steps-used.true)))

pub overflow_add-used : goal.overflow_add-used
overflow_add-used c = omega (arith, c.if-steps-used.false)

pub ports-init : goal.ports-init
ports-init c = (λ k l. absurd (omega (arith, l)), refl)

pub bounds-out-q : goal.bounds-out-q
bounds-out-q c =
    omega (arith, filled_length (filled_by c.args.held.valid c.loop-used.invariant.1.within c.demands.ensures), c.ports-test.true)

pub held_fails-requires : goal.held_fails-requires
held_fails-requires c =
    let full = filled_by c.args.held.valid c.loop-used.invariant.1.within c.demands.ensures in
    (omega (arith, c.window-available.ensures, filled_short full), filled_most full _ c.ports-test.true)

pub ports-preserved : goal.ports-preserved
ports-preserved c = (passed_next c.ports.invariant.0 (sym c.held_fails.ensures ∙ c.if-held_fails.false), c.ports.invariant.1)

pub neediest-worst-requires-clause-by_index : goal.neediest-worst-requires-clause-by_index
neediest-worst-requires-clause-by_index c =
    let full = filled_by c.args.held.valid c.loop-used.invariant.1.within c.demands.ensures in
    λ q l. (filled_most full q l, filled-served full q l)

pub returns-then-limit-next : goal.returns-then-limit-next
returns-then-limit-next c =
    let p = plan_lent c.args.held.lent in
    let s = c.loop-used.invariant.1 in
    let full : Filled p c.demands.new.out c.loop-used.t = filled_by c.args.held.valid s.within c.demands.ensures in
    let more : c.loop-used.t < largest_need p c.loop-used.t =
    elim c.ports-test.branch [
      | else-ports-test w ↦ absurd (true≢false (sym c.ports.invariant.1 ∙ sym w.passes-is ∙ c.if-passes.false))
      | then-ports-test+then-held_fails w ↦ one_fails full s.first c.window-available.ensures c.ports.q w.ports-test.true (sym w.held_fails.ensures ∙ w.if-held_fails.true)
    ] in
    let next = filled-largest full c.neediest-worst.ensures.most in
    c.none_found-refusal.ensures ∙ ap (outcome_answer p c.args.steps) (step_exceeds s (omega (arith, c.if-steps-used.false)) more (omega (arith, next, c.if-limit-next.true)))

pub loop-used-preserved : goal.loop-used-preserved
loop-used-preserved c =
    let p = plan_lent c.args.held.lent in
    let s = c.loop-used.invariant.1 in
    let full : Filled p c.demands.new.out c.loop-used.t = filled_by c.args.held.valid s.within c.demands.ensures in
    let more : c.loop-used.t < largest_need p c.loop-used.t =
    elim c.ports-test.branch [
      | else-ports-test w ↦ absurd (true≢false (sym c.ports.invariant.1 ∙ sym w.passes-is ∙ c.if-passes.false))
      | then-ports-test+then-held_fails w ↦ one_fails full s.first c.window-available.ensures c.ports.q w.ports-test.true (sym w.held_fails.ensures ∙ w.if-held_fails.true)
    ] in
    let next : c.neediest-worst.result.needed ≡ largest_need p c.loop-used.t = filled-largest full c.neediest-worst.ensures.most in
    (filled_length full, subst (Stepped p _ _ _) (sym next) (step_rises s (omega (arith, c.if-steps-used.false)) more (omega (arith, next, c.if-limit-next.false))))

pub returns : goal.returns
returns c =
    let p = plan_lent c.args.held.lent in
    let s = c.loop-used.invariant.1 in
    let full : Filled p c.demands.new.out c.loop-used.t = filled_by c.args.held.valid s.within c.demands.ensures in
    elim c.ports-test.branch [
      | else-ports-test w ↦
          ap (outcome_answer p c.args.steps)
          (step_settles s (omega (arith, c.if-steps-used.false)) (none_settles full s.first c.window-available.ensures (λ k l. c.ports.invariant.0 k (omega (arith, l, w.ports-test.false)))))
      | then-ports-test+then-held_fails w ↦ absurd (true≢false (sym c.if-passes.true ∙ w.passes-is))
    ]
