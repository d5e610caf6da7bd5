-- `unsent_tables` meets its contract: by the plain question's answer.
use mathlib.Core.Path.{ap, ◌∙◌}
use native.Mathlib.Omega.{arith}
use Rattle.std.proofs.Math.Option.{some}
use Rattle.tables.specs.Lent.{plan_lent}
use Rattle.answers.specs.Answer.{result}
use Rattle.emissions.specs.Unsent.{Unsent}
use Rattle.emissions.specs.laws.Burst.{within_low, within_high}
use Rattle.emissions.specs.laws.Answers.{unsent-none, unsent_out, unsent-admissible, refused, unsent-found, failing_slot, failing-least}
use Rattle.emissions.specs.results.Theorem.{unsent_told}
use Rattle.emissions.proofs.unsent.unsent_tables.Goals as goal

pub invariant_of-held : goal.invariant_of-held
invariant_of-held c =
    let a = c.args in
    let p = plan_lent a.lent in
    let said = rw (c.in-Err-Failing.is, c.in-Err-Failing.field-0-is) at c.asked.ensures in
    let r = refused p a.duration c.in-Err-Failing.port _ said in
    record { valid = r.valid }

pub overflow_sub-port : goal.overflow_sub-port
overflow_sub-port c =
    let a = c.args in
    let p = plan_lent a.lent in
    let said = rw (c.in-Err-Failing.is, c.in-Err-Failing.field-0-is) at c.asked.ensures in
    let r = refused p a.duration c.in-Err-Failing.port _ said in
    omega (arith, r.lowest, failing-least p a.duration)

pub unsent_of-requires : goal.unsent_of-requires
unsent_of-requires c =
    let a = c.args in
    let p = plan_lent a.lent in
    let said = rw (c.in-Err-Failing.is, c.in-Err-Failing.field-0-is) at c.asked.ensures in
    let r = refused p a.duration c.in-Err-Failing.port _ said in
    let slot = failing_slot p a.duration r.bad in
    (within_low 1 p.top a.duration r.ranged, within_high 1 p.top a.duration r.ranged, rw r.lowest slot.0, rw r.lowest slot.1)

pub returns-in-Ok : goal.returns-in-Ok
returns-in-Ok c =
    let p = plan_lent c.args.lent in
    let t = unsent_told p c.args.duration _ (unsent-admissible p c.args.duration c.in-Ok.ensures) in
    record { answers = t.0; means = t.1 }

pub returns-in-Err-NoPlan : goal.returns-in-Err-NoPlan
returns-in-Err-NoPlan c =
    let p = plan_lent c.args.lent in
    let t = unsent_told p c.args.duration _ (unsent-none p c.args.duration (rw (c.in-Err-NoPlan.is, c.in-Err-NoPlan.field-0-is) at c.asked.ensures)) in
    record { answers = t.0; means = t.1 }

pub returns-in-Err-BadDuration : goal.returns-in-Err-BadDuration
returns-in-Err-BadDuration c =
    let p = plan_lent c.args.lent in
    let t = unsent_told p c.args.duration _ (unsent_out p c.args.duration (rw (c.in-Err-BadDuration.is, c.in-Err-BadDuration.field-0-is) at c.asked.ensures)) in
    record { answers = t.0; means = t.1 }

pub returns-in-Err-Failing : goal.returns-in-Err-Failing
returns-in-Err-Failing c =
    let p = plan_lent c.args.lent in
    let said = rw (c.in-Err-Failing.is, c.in-Err-Failing.field-0-is) at c.asked.ensures in
    let found = ap (λ (u : Unsent). result (some u)) c.unsent_of.ensures ∙ unsent-found p c.args.duration c.in-Err-Failing.port _ said in
    let t = unsent_told p c.args.duration _ found in
    record { answers = t.0; means = t.1 }
