-- `questions::reprice::reprice_tables` meets its contract: the refusals in their order, and the route's slacks.
use mathlib.Core.Path.{sym, ◌∙◌}
use Prim.Native.Nat.{◌-◌, ◌≤◌}
use native.Mathlib.Omega.{arith}
use lib.ListN.{length}
use Rattle.cqf.specs.Limits.{port_slots, flow_slots, max_length}
use Rattle.cqf.proofs.laws.RepriceValid.{length_slot}
use Rattle.plan_reading.specs.laws.fields.Within.{within_low, within_high, slot_below}
use Rattle.tables.specs.Lent.{plan_lent}
use Rattle.questions.specs.laws.Reprice.{reprice_none, reprice_out, reprice_short, reprice_length, reprice_unknown, reprice_done, reprice_number, reprice_there}
use Rattle.questions.proofs.reprice.reprice_tables.Goals as goal

pub returns-in_default : goal.returns-in_default
returns-in_default c = reprice_none (plan_lent c.args.lent) _ _ _ _ c.in_default.ensures

pub returns-then-not-between : goal.returns-then-not-between
returns-then-not-between c =
    let held = c.in-Some.held in
    rw (sym c.in-Some.ensures) (reprice_out (plan_lent held.lent) _ _ _ _ held.valid (sym c.between.ensures ∙ c.if-not-between.true))

pub returns-then-out-lt-PORTS : goal.returns-then-out-lt-PORTS
returns-then-out-lt-PORTS c =
    let held = c.in-Some.held in
    let ranged = sym c.between.ensures ∙ c.if-not-between.false in
    rw (sym c.in-Some.ensures) (reprice_short (plan_lent held.lent) _ _ _ _ held.valid ranged (omega (arith, c.if-out-lt-PORTS.true)))

pub returns-then-not-between-2 : goal.returns-then-not-between-2
returns-then-not-between-2 c =
    let held = c.in-Some.held in
    let ranged = sym c.between.ensures ∙ c.if-not-between.false in
    rw (sym c.in-Some.ensures)
    (reprice_length (plan_lent held.lent) _ _ _ _ held.valid ranged (omega (arith, c.if-out-lt-PORTS.false)) (sym c.between-2.ensures ∙ c.if-not-between-2.true))

pub returns-then-not-holds_flow : goal.returns-then-not-holds_flow
returns-then-not-holds_flow c =
    let held = c.in-Some.held in
    let ranged = sym c.between.ensures ∙ c.if-not-between.false in
    rw (sym c.in-Some.ensures)
    (reprice_unknown (plan_lent held.lent) _ _ _ _ held.valid ranged (omega (arith, c.if-out-lt-PORTS.false)) (sym c.between-2.ensures ∙ c.if-not-between-2.false) (sym c.holds_flow.ensures ∙ c.if-not-holds_flow.true))

pub overflow_sub-f : goal.overflow_sub-f
overflow_sub-f c =
    let p = plan_lent c.in-Some.held.lent in
    let a = c.args in
    let number = reprice_number p a.duration a.flow a.bytes a.out.now (sym c.holds_flow.ensures ∙ c.if-not-holds_flow.false) in
    within_low 1 flow_slots a.flow number

pub reprice_route-requires : goal.reprice_route-requires
reprice_route-requires c =
    let held = c.in-Some.held in
    let p = plan_lent held.lent in
    let a = c.args in
    let known = sym c.holds_flow.ensures ∙ c.if-not-holds_flow.false in (
      within_high _ _ _ (sym c.between.ensures ∙ c.if-not-between.false),
      slot_below flow_slots a.flow (reprice_number p a.duration a.flow a.bytes a.out.now known),
      length_slot p held.valid (a.flow - 1) (reprice_there p a.duration a.flow a.bytes a.out.now known),
      within_high 64 max_length a.bytes (sym c.between-2.ensures ∙ c.if-not-between-2.false),
      omega (arith, c.if-out-lt-PORTS.false),
    )

pub returns : goal.returns
returns c =
    let held = c.in-Some.held in
    let ranged = sym c.between.ensures ∙ c.if-not-between.false in
    let long : port_slots ≤ length c.args.out.now = omega (arith, c.if-out-lt-PORTS.false) in
    rw (sym c.in-Some.ensures)
    (reprice_done (plan_lent held.lent) _ _ _ _ held.valid ranged long (sym c.between-2.ensures ∙ c.if-not-between-2.false) (sym c.holds_flow.ensures ∙ c.if-not-holds_flow.false) c.reprice_route.ensures)
