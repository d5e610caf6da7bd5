use mathlib.Core.Path.{◌≡◌, sym, ap₂, ◌∙◌}
use native.Mathlib.Omega.{arith}
use native.Mathlib.Nat.{le_trans, le_of_eq}
use borrow.Author.Rules.{rules}
use Rattle.cqf.specs.Limits.{port_slots}
use Rattle.cqf.specs.Plan.{rate_of, blocking_of, extra_of}
use Rattle.cqf.specs.Port.{fails_by_of}
use Rattle.cqf.specs.Condition.{demand, fails}
use Rattle.cqf.proofs.laws.Ranges.{top_most}
use Rattle.tables.specs.Lent.{plan_lent}
use Rattle.questions.specs.Failing.{set_to}
use Rattle.questions.specs.laws.Fails.{fails_by, set_lowest_failing, set_failing}
use Rattle.questions.specs.laws.Sets.{set_or, set_skip}
use Rattle.questions.specs.laws.Widened.{demand_fits}
use Rattle.questions.proofs.failing.failing_by.Goals as goal
use Rattle.questions.proofs.failing.failing_by.Goals.{then-held_fails, else-held_fails}

pub loop-q-init : goal.loop-q-init
unfolding set_to
loop-q-init g c = search rules

pub held_fails-requires : goal.held_fails-requires
held_fails-requires g c =
    let valid = c.args.held.valid in
    let p = plan_lent c.args.held.lent in
    let q = c.loop-q.q in
    let T = c.args.duration in
    let bits : c.demand_of-bits.result ≡ demand p q T = c.requires.demands q _ c.loop-q-test.true c.demand_of-bits.ensures in
    (omega (arith, c.window-available.ensures, top_most p valid, c.requires.range.1), le_trans (le_of_eq bits) (demand_fits p valid T c.requires.range.1 q c.loop-q-test.true))

pub loop-q-preserved : goal.loop-q-preserved
loop-q-preserved g c =
    let p = plan_lent c.args.held.lent in
    let q = c.loop-q.q in
    let T = c.args.duration in
    let bits : c.demand_of-bits.result ≡ demand p q T = c.requires.demands q _ c.loop-q-test.true c.demand_of-bits.ensures in
    let tested : c.held_fails.result ≡ fails p T q =
    c.held_fails.ensures
    ∙ ap₂ (fails_by_of (rate_of p q) (blocking_of p q) (extra_of p q)) c.window-available.ensures bits
    ∙ sym (fails_by p c.args.held.valid T c.requires.range.0 q)
    in
    elim c.if-held_fails.branch [
      | then-held_fails w ↦ w.set-is ∙ set_or q _ c.loop-q-test.true c.loop-q.invariant (sym tested ∙ w.if-held_fails.true)
      | else-held_fails w ↦ w.set-is ∙ set_skip q _ c.loop-q.invariant (sym tested ∙ w.if-held_fails.false)
    ]

pub returns : goal.returns
returns g c =
    let p = plan_lent c.args.held.lent in
    let all : c.loop-q.q ≡ port_slots = omega arith in
    let is = rw all at c.loop-q.invariant in
    (c.failing_ports.ensures.0 ∙ set_lowest_failing p _ is, c.failing_ports.ensures.1 ∙ set_failing p _ is)
