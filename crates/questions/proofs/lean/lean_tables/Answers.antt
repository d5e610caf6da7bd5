-- `questions::lean::lean_tables` meets its contract: the refusals before a search, and the first number of the scratch.
use mathlib.Core.Path.{◌≡◌, sym, ap, ap₂, ◌∙◌}
use Prim.Native.Nat.{suc, ◌-◌, ◌≤◌}
use native.Mathlib.Nat.{le_trans, le_of_eq, le_refl}
use native.Mathlib.Omega.{arith}
use lib.ListN.{length}
use Rattle.cqf.specs.Condition.{demand}
use Rattle.cqf.specs.PortSteps.{highest_crossed}
use Rattle.cqf.proofs.laws.HighestCrossed.{highest_slot}
use Rattle.cqf.proofs.laws.Ranges.{top_positive}
use Rattle.tables.specs.Lent.{plan_lent}
use Rattle.questions.specs.Search.{wanted, none_number}
use Rattle.questions.specs.laws.Leanly.{lean_no_plan, lean_empty, lean_within, lean_above}
use Rattle.questions.proofs.lean.lean_tables.Goals as goal

pub returns-in_default : goal.returns-in_default
returns-in_default c = lean_no_plan (none_number c.args.goal) (wanted c.args.goal) (plan_lent c.args.lent) c.args.scratch.now c.in_default.ensures

pub returns-then-size-eq0 : goal.returns-then-size-eq0
returns-then-size-eq0 c =
    let held = c.in-Some.held in
    rw (sym c.in-Some.ensures) (lean_empty (none_number c.args.goal) (wanted c.args.goal) (plan_lent held.lent) c.args.scratch.now held.valid (omega (arith, c.if-size-eq0.true)))

pub port_demand-requires : goal.port_demand-requires
port_demand-requires c =
    let p = plan_lent c.in-Some.held.lent in
    (omega (arith, c.min-at.ensures), le_trans (le_of_eq (ap suc c.highest_slot-q.ensures)) (highest_slot p))

pub bounds-scratch-0 : goal.bounds-scratch-0
bounds-scratch-0 c = omega (arith, c.if-size-eq0.false)

pub failing_by-ports-requires-clause-range : goal.failing_by-ports-requires-clause-range
failing_by-ports-requires-clause-range c = (top_positive _ c.in-Some.held.valid, le_refl _)

pub returns-then-limit-found : goal.returns-then-limit-found
returns-then-limit-found c =
    let held = c.in-Some.held in
    let p = plan_lent held.lent in
    let some : 1 ≤ length c.args.scratch.now = omega (arith, c.if-size-eq0.false) in
    let left : c.port_demand.result ≡ demand p (highest_crossed p - 1) p.top =
    c.port_demand.ensures ∙ ap₂ (demand p) c.highest_slot-q.ensures (omega (arith, c.min-at.ensures, c.if-limit-found.true)) in
    let f = c.failing_by-ports.ensures in
    rw (sym c.in-Some.ensures) (lean_above (none_number c.args.goal) (wanted c.args.goal) p c.args.scratch.now held.valid some c.lean_seek-found.ensures (omega (arith, c.if-limit-found.true)) left f.0 f.1)

pub returns : goal.returns
returns c =
    let held = c.in-Some.held in
    let p = plan_lent held.lent in
    let some : 1 ≤ length c.args.scratch.now = omega (arith, c.if-size-eq0.false) in
    let left : c.port_demand.result ≡ demand p (highest_crossed p - 1) c.lean_seek-found.result =
    c.port_demand.ensures ∙ ap₂ (demand p) c.highest_slot-q.ensures (omega (arith, c.min-at.ensures, c.if-limit-found.false)) in
    rw (sym c.in-Some.ensures) (lean_within (none_number c.args.goal) (wanted c.args.goal) p c.args.scratch.now held.valid some c.lean_seek-found.ensures (omega (arith, c.if-limit-found.false)) left)
