-- `questions::port_slack::slack_tables` meets its contract.
use mathlib.Core.Path.{sym, ap, ap₂, ◌∙◌}
use Prim.Native.Nat.{ℕ, ◌-◌, ◌*◌, ◌<◌}
use native.Mathlib.Nat.{le_trans, le_of_eq}
use native.Mathlib.Omega.{arith}
use lib.Dec.{ltb}
use mir.Syntax.{w64}
use borrow.Author.Tests.{lt-ltb}
use mir.ValLaws.{to_z-of_z}
use lib.IntN.{sub_ℕ}
use Rattle.cqf.specs.Limits.{port_slots}
use Rattle.cqf.specs.Plan.{rate_of, blocking_of, extra_of}
use Rattle.cqf.specs.Port.{workload_of}
use Rattle.cqf.specs.Condition.{demand}
use Rattle.cqf.proofs.laws.Ranges.{top_most}
use Rattle.answers.specs.Answer.{result}
use Rattle.plan_reading.specs.laws.fields.Within.{within_low, within_high, slot_below}
use Rattle.tables.specs.Lent.{plan_lent}
use Rattle.questions.specs.laws.Answers.{slack-none, slack_out, slack_no_port, slack_uncrossed, slack-crossed}
use Rattle.questions.specs.laws.Fails.{crossed-demand, slack_is}
use Rattle.questions.specs.laws.Widened.{demand_fits}
use Rattle.questions.proofs.port_slack.slack_tables.Goals as goal

pub returns-in_default : goal.returns-in_default
returns-in_default c = sym (slack-none (plan_lent c.args.lent) _ _ c.in_default.ensures)

pub returns-then-not-between : goal.returns-then-not-between
returns-then-not-between c =
    let held = c.in-Some.held in
    rw (sym c.in-Some.ensures) (sym (slack_out (plan_lent held.lent) _ _ held.valid (sym c.between.ensures ∙ c.if-not-between.true)))

pub returns-then-not-between-2 : goal.returns-then-not-between-2
returns-then-not-between-2 c =
    let held = c.in-Some.held in
    rw (sym c.in-Some.ensures)
    (sym (slack_no_port (plan_lent held.lent) _ _ held.valid (sym c.between.ensures ∙ c.if-not-between.false) (sym c.between-2.ensures ∙ c.if-not-between-2.true)))

pub port_demand-bits-requires : goal.port_demand-bits-requires
port_demand-bits-requires c =
    (within_high _ _ _ (sym c.between.ensures ∙ c.if-not-between.false), slot_below port_slots c.args.port (sym c.between-2.ensures ∙ c.if-not-between-2.false))

pub returns-then-bits-eq0 : goal.returns-then-bits-eq0
returns-then-bits-eq0 c =
    let held = c.in-Some.held in
    let p = plan_lent held.lent in
    let ranged = sym c.between.ensures ∙ c.if-not-between.false in
    let none = crossed-demand p held.valid c.args.duration (within_low _ _ _ ranged) (c.args.port - 1) in
    rw (sym c.in-Some.ensures)
    (sym (slack_uncrossed p _ _ held.valid ranged (none ∙ ap (ltb 0) (sym c.port_demand-bits.ensures ∙ c.if-bits-eq0.true))))

pub port_slack-requires : goal.port_slack-requires
port_slack-requires c =
    let valid = c.in-Some.held.valid in
    let within = within_high _ _ _ (sym c.between.ensures ∙ c.if-not-between.false) in
    let slot = slot_below port_slots c.args.port (sym c.between-2.ensures ∙ c.if-not-between-2.false) in
    (omega (arith, c.window-available.ensures, top_most _ valid, within), le_trans (le_of_eq c.port_demand-bits.ensures) (demand_fits _ valid c.args.duration within (c.args.port - 1) slot))

pub returns-else-bits-eq0 : goal.returns-else-bits-eq0
returns-else-bits-eq0 c =
    let held = c.in-Some.held in
    let p = plan_lent held.lent in
    let T = c.args.duration in
    let q = c.args.port - 1 in
    let ranged = sym c.between.ensures ∙ c.if-not-between.false in
    let some : 0 < demand p q T = omega (arith, c.port_demand-bits.ensures, c.if-bits-eq0.false) in
    let yes = crossed-demand p held.valid T (within_low _ _ _ ranged) q ∙ lt-ltb 0 (demand p q T) some in
    let products =
    ap₂ (λ (w bits : ℕ). sub_ℕ (rate_of p q * w) (workload_of (blocking_of p q) (extra_of p q) bits)) c.window-available.ensures c.port_demand-bits.ensures in
    rw (sym c.in-Some.ensures)
    (ap result (to_z-of_z w64 c.port_slack.result (record { sfits = c.port_slack.type_inv }))
    ∙ sym (slack-crossed p c.args.port T held.valid ranged (sym c.between-2.ensures ∙ c.if-not-between-2.false) yes (c.port_slack.ensures ∙ products ∙ sym (slack_is p q T))))
