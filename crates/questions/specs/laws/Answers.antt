-- The answers of the questions, case by case.
use Rattle.std.specs.Prelude.{◌≡◌, Bool, true, false, cond, ◌&&◌, [], ◌∷◌, ℕ, ◌-◌, ℤ}
use Rattle.std.proofs.Math.Path.{refl}
use Rattle.std.proofs.Common.{sym, ap, ◌∙◌, arith}
use Rattle.std.proofs.Math.Bool.{and-false}
use borrow.Author.Tests.{eq-eqb, ne_eqb}
use Rattle.cqf.specs.Bounded.{within}
use Rattle.cqf.specs.Limits.{port_ok}
use Rattle.cqf.specs.Plan.{Plan, valid_plan}
use Rattle.cqf.specs.Condition.{slack, crossed, admissible, failing, lowest_failing}
use Rattle.cqf.specs.FixedPoint.{iterate}
use Rattle.answers.specs.Answer.{Answer, result, refusal, refusal_number}
use Rattle.answers.specs.Refusals.{bad_duration, no_plan_held, not_admissible, not_crossed}
use Rattle.questions.specs.Outcome.{asked, failing_at, check_answer, slack_answer}
use Rattle.questions.specs.FixedPoint.{outcome_answer, fixed_point_answer}

-- 20, then 10, then what the question says
module _ {A : Type 0} (p : Plan) (T : ℕ) (answer : Answer A) where
  asked-none : valid_plan p ≡ false → asked p T answer ≡ refusal no_plan_held (0 ∷ [])
  asked-none e = rw e

  asked_out : valid_plan p ≡ true → within 1 p.top T ≡ false → asked p T answer ≡ refusal bad_duration (0 ∷ [])
  asked_out e out = rw (e, out)

  asked-within : valid_plan p ≡ true → within 1 p.top T ≡ true → asked p T answer ≡ answer
  asked-within e ranged = rw (e, ranged)

-- the plain question
module _ (p : Plan) (T : ℕ) where
  -- what it says of a valid plan, at a duration from 1 to its top
  abbrev pub verdict : Answer (Unit {0})
  verdict = cond (admissible p T) (result tt) (failing_at not_admissible p T)

  check_is : check_answer p T ≡ asked p T verdict
  unfolding check_answer
  check_is = refl

  pub check_none : valid_plan p ≡ false → check_answer p T ≡ refusal no_plan_held (0 ∷ [])
  check_none e = check_is ∙ asked-none p T verdict e

  pub check_out : valid_plan p ≡ true → within 1 p.top T ≡ false → check_answer p T ≡ refusal bad_duration (0 ∷ [])
  check_out e out = check_is ∙ asked_out p T verdict e out

  pub check_within : valid_plan p ≡ true → within 1 p.top T ≡ true → check_answer p T ≡ verdict
  check_within e ranged = check_is ∙ asked-within p T verdict e ranged

  -- it accepts exactly the admissible durations from 1 to top
  pub check_admissible : valid_plan p ≡ true → within 1 p.top T ≡ true → admissible p T ≡ true → check_answer p T ≡ result tt
  check_admissible e ranged good = check_within e ranged ∙ rw good

  pub check_accepts : valid_plan p ≡ true → check_answer p T ≡ result tt → (within 1 p.top T ≡ true) × (admissible p T ≡ true)
  check_accepts e said = ranged (within 1 p.top T) refl
    where
      good : (b : Bool) → admissible p T ≡ b → within 1 p.top T ≡ true → admissible p T ≡ true
      good true a r = a
      good false a r =
          let none : failing_at not_admissible p T ≡ result tt = rw a at (sym (check_within e r) ∙ said) in
          let z : ◌≡◌ {A = ℕ} 21 0 = ap refusal_number none in
          absurd (omega arith)

      ranged : (b : Bool) → within 1 p.top T ≡ b → (within 1 p.top T ≡ true) × (admissible p T ≡ true)
      ranged true r = (r, good (admissible p T) refl r)
      ranged false r =
          let z : ◌≡◌ {A = ℕ} 10 0 = ap refusal_number (sym (check_out e r) ∙ said) in
          absurd (omega arith)

  -- by how many ports fail
  module _ {count : ℕ} (valid : valid_plan p ≡ true) (ranged : within 1 p.top T ≡ true) (many : count ≡ failing p T) where
    none-admissible : count ≡ 0 → admissible p T ≡ true
    unfolding admissible
    none-admissible e = eq-eqb _ _ (sym many ∙ e)

    some_refused : (count ≡ 0 → ⊥) → admissible p T ≡ false
    unfolding admissible
    some_refused ne = ne_eqb _ _ (λ e. ne (many ∙ e))

    pub check_good : count ≡ 0 → check_answer p T ≡ result tt
    check_good e = check_admissible valid ranged (none-admissible e)

    pub check_bad
        : {port : ℕ}
        → (count ≡ 0 → ⊥)
        → port ≡ lowest_failing p T
        → check_answer p T ≡ refusal not_admissible (port ∷ count ∷ [])
    check_bad ne port = check_within valid ranged ∙ rw (some_refused ne, port, many)

-- the fixed-point iteration
module _ (p : Plan) (start steps : ℕ) where
  fixed_point_is : fixed_point_answer p start steps ≡ asked p start (outcome_answer p steps (iterate p start steps))
  unfolding fixed_point_answer
  fixed_point_is = refl

  pub fixed_point_none : valid_plan p ≡ false → fixed_point_answer p start steps ≡ refusal no_plan_held (0 ∷ [])
  fixed_point_none e = fixed_point_is ∙ asked-none p start _ e

  pub fixed_point_out : valid_plan p ≡ true → within 1 p.top start ≡ false → fixed_point_answer p start steps ≡ refusal bad_duration (0 ∷ [])
  fixed_point_out e out = fixed_point_is ∙ asked_out p start _ e out

  pub fixed_point_within
      : valid_plan p ≡ true
      → within 1 p.top start ≡ true
      → fixed_point_answer p start steps ≡ outcome_answer p steps (iterate p start steps)
  fixed_point_within e ranged = fixed_point_is ∙ asked-within p start _ e ranged

-- the slack of port n
module _ (p : Plan) (n T : ℕ) where
  abbrev spare : Answer ℤ
  spare = cond (port_ok n && crossed p (n - 1)) (result (slack p (n - 1) T)) (refusal not_crossed (0 ∷ []))

  slack_answer_is : slack_answer p n T ≡ asked p T spare
  unfolding slack_answer
  slack_answer_is = refl

  pub slack-none : valid_plan p ≡ false → slack_answer p n T ≡ refusal no_plan_held (0 ∷ [])
  slack-none e = slack_answer_is ∙ asked-none p T spare e

  pub slack_out : valid_plan p ≡ true → within 1 p.top T ≡ false → slack_answer p n T ≡ refusal bad_duration (0 ∷ [])
  slack_out e out = slack_answer_is ∙ asked_out p T spare e out

  module _ (valid : valid_plan p ≡ true) (ranged : within 1 p.top T ≡ true) where
    pub slack_no_port : port_ok n ≡ false → slack_answer p n T ≡ refusal not_crossed (0 ∷ [])
    slack_no_port none = slack_answer_is ∙ asked-within p T spare valid ranged ∙ (rw none)

    pub slack_uncrossed : crossed p (n - 1) ≡ false → slack_answer p n T ≡ refusal not_crossed (0 ∷ [])
    slack_uncrossed e = slack_answer_is ∙ asked-within p T spare valid ranged ∙ (rw (e, and-false (port_ok n)))

    pub slack-crossed
        : {z : ℤ}
        → port_ok n ≡ true
        → crossed p (n - 1) ≡ true
        → z ≡ slack p (n - 1) T
        → slack_answer p n T ≡ result z
    slack-crossed ok e is = slack_answer_is ∙ asked-within p T spare valid ranged ∙ (rw (ok, e, is))
