-- The steps before it are added to each answer that says how many were used.
use Rattle.std.proofs.Common.{◌≡◌, refl, ap, ap₂, sym, ◌∙◌, ℕ, ◌+◌, ◌≤◌, arith}
use Rattle.cqf.specs.Limits.{max_top}
use Rattle.cqf.specs.Plan.{Plan}
use Rattle.cqf.proofs.laws.Ranges.{top_most}
use Rattle.answers.specs.Answer.{Answer}
use Rattle.questions.specs.FixedPoint.{FixedPoint, fixed_point_answer}
use Rattle.sequences.specs.Iterations.{last_plus, plus_steps}
use Rattle.progress.specs.Portion.{portion_steps, Reached}
use Rattle.progress.specs.laws.Portions.{reached_few, portioned, found_within, none_within, stopped_within, not_20, not_10}
use Rattle.progress.proofs.portion.Goals as goal

-- the steps before are few
few : {p : Plan} {at used : ℕ} → Reached p at used → used ≤ max_top
few {p} r = omega (arith, reached_few r, top_most p r.valid)

-- the answer of a call, where that goes on from the duration reached and has the steps of a portion
asked
    : {p : Plan} {at used from n : ℕ} {a : Answer FixedPoint}
    → Reached p at used
    → a ≡ fixed_point_answer p from n
    → from ≡ at
    → n ≡ portion_steps
    → a ≡ fixed_point_answer p at portion_steps
asked {p = p} r e f m = e ∙ ap₂ (fixed_point_answer p) f m

-- the answer with the steps before it is that of a single call
single
    : {p : Plan} {at used : ℕ} {a : Answer FixedPoint}
    → Reached p at used
    → a ≡ fixed_point_answer p at portion_steps
    → plus_steps used a ≡ fixed_point_answer p 1 (used + portion_steps)
single {used = used} r e = ap (plus_steps used) e ∙ sym (portioned r portion_steps)

pub overflow_add-result : goal.overflow_add-result
overflow_add-result c = record { fits = omega (arith, few c.requires, found_within c.requires portion_steps (asked c.requires c.in-Ok.ensures.answers refl refl)) }

pub overflow_add-result-in-Err-Failing : goal.overflow_add-result-in-Err-Failing
overflow_add-result-in-Err-Failing c =
    let e = rw c.in-Err-Failing.field-0-is at c.in-Err-Failing.ensures.answers in
    record { fits = omega (arith, few c.requires, none_within c.requires portion_steps (asked c.requires e refl refl)) }

pub overflow_add-result-in-Err-Unfinished : goal.overflow_add-result-in-Err-Unfinished
overflow_add-result-in-Err-Unfinished c =
    let e = rw c.in-Err-Unfinished.field-0-is at c.in-Err-Unfinished.ensures.answers in
    record { fits = omega (arith, few c.requires, stopped_within c.requires portion_steps (asked c.requires e refl refl)) }

pub returns-in-Ok : goal.returns-in-Ok
returns-in-Ok c = single c.requires (asked c.requires c.in-Ok.ensures.answers refl refl)

pub returns-in-Err-NoPlan : goal.returns-in-Err-NoPlan
returns-in-Err-NoPlan c =
    let e = rw c.in-Err-NoPlan.field-0-is at c.in-Err-NoPlan.ensures.answers in
    absurd (not_20 c.requires portion_steps (asked c.requires e refl refl))

pub returns-in-Err-BadStart : goal.returns-in-Err-BadStart
returns-in-Err-BadStart c =
    let e = rw c.in-Err-BadStart.field-0-is at c.in-Err-BadStart.ensures.answers in
    absurd (not_10 c.requires portion_steps (asked c.requires e refl refl))

pub returns-in-Err-Failing : goal.returns-in-Err-Failing
unfolding last_plus
returns-in-Err-Failing c =
    let e = rw c.in-Err-Failing.field-0-is at c.in-Err-Failing.ensures.answers in
    single c.requires (asked c.requires e refl refl)

pub returns-in-Err-Unfinished : goal.returns-in-Err-Unfinished
unfolding last_plus
returns-in-Err-Unfinished c =
    let e = rw c.in-Err-Unfinished.field-0-is at c.in-Err-Unfinished.ensures.answers in
    single c.requires (asked c.requires e refl refl)
