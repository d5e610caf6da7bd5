-- What the slack of a port answers, and when two plans answer it alike.
use Rattle.std.specs.Prelude.{◌≡◌, Bool, true, false, cond, ◌&&◌, List, [], ◌∷◌, ℕ, suc, ◌+◌, ◌-◌, ◌<◌, ℤ}
use Rattle.std.proofs.Math.Path.{refl}
use Rattle.std.proofs.Common.{sym, ap, ◌∙◌, arith, le-leb}
use Rattle.cqf.specs.Bounded.{within}
use Rattle.cqf.specs.Limits.{port_slots, flow_slots, port_ok}
use Rattle.cqf.specs.Plan.{Plan, crosses, valid_plan}
use Rattle.cqf.specs.Condition.{crossed, slack}
use Rattle.cqf.proofs.laws.Bounded.{any_to_true, any_to_some}
use Rattle.cqf.proofs.laws.LongerSlack.{slack_rises, slack_falls}
use Rattle.cqf.proofs.laws.Repriced.{HoldsSlacks, crosses_slot}
use Rattle.answers.specs.Answer.{result, refusal}
use Rattle.answers.specs.Refusals.{bad_duration, no_plan_held, not_crossed}
use Rattle.questions.specs.Outcome.{asked, slack_answer}
use Rattle.sequences.specs.Repriced.{HoldsAnswers, BoundedChange}
use Rattle.questions.specs.laws.Answers.{slack_uncrossed, slack-crossed}
use Rattle.questions.specs.laws.Reprice.{granted}

-- the number of a port in the table
port_ok_lem : (q : ℕ) → q < port_slots → port_ok (suc q) ≡ true
port_ok_lem q l = rw (le-leb 1 (suc q) (omega arith), le-leb (suc q) port_slots (omega arith))

-- a crossed port is one of the table
pub crossed_slot : (p : Plan) → valid_plan p ≡ true → (q : ℕ) → crossed p q ≡ true → q < port_slots
unfolding crossed
crossed_slot p valid q e = let s = any_to_true flow_slots (λ f. crosses p f q) e in crosses_slot p valid s.0 q s.1 s.2

pub crosses-crossed : (p : Plan) (f q : ℕ) → f < flow_slots → crosses p f q ≡ true → crossed p q ≡ true
unfolding crossed
crosses-crossed p f q l e = any_to_some flow_slots (λ f. crosses p f q) f l e

module _ (p : Plan) (valid : valid_plan p ≡ true) (T : ℕ) (ranged : within 1 p.top T ≡ true) where
  -- the slack of the port in slot q
  pub slack_answered : (q : ℕ) {z : ℤ} → crossed p q ≡ true → z ≡ slack p q T → slack_answer p (suc q) T ≡ result z
  slack_answered q some is =
      let back : q ≡ suc q - 1 = omega arith in
      slack-crossed p (suc q) T valid ranged (port_ok_lem q (crossed_slot p valid q some)) (ap (crossed p) (sym back) ∙ some) (is ∙ ap (λ (k : ℕ). slack p k T) back)

  slack_refused : (q : ℕ) → crossed p q ≡ false → slack_answer p (suc q) T ≡ refusal not_crossed (0 ∷ [])
  slack_refused q none =
      let back : q ≡ suc q - 1 = omega arith in
      slack_uncrossed p (suc q) T valid ranged (ap (crossed p) (sym back) ∙ none)

-- two plans of the same top that agree on a port answer its slack alike
pub slack-alike
    : (p r : Plan) (T q : ℕ)
    → valid_plan p ≡ true
    → valid_plan r ≡ true
    → within 1 p.top T ≡ true
    → within 1 r.top T ≡ true
    → crossed r q ≡ crossed p q
    → slack r q T ≡ slack p q T
    → slack_answer r (suc q) T ≡ slack_answer p (suc q) T
slack-alike p r T q valid valid' ranged ranged' same is = go (crossed p q) refl
  where
    go : (b : Bool) → crossed p q ≡ b → slack_answer r (suc q) T ≡ slack_answer p (suc q) T
    go true e =
        slack_answered r valid' T ranged' q (same ∙ e) (sym is) ∙ sym (slack_answered p valid T ranged q e refl)
    go false e = slack_refused r valid' T ranged' q (same ∙ e) ∙ sym (slack_refused p valid T ranged q e)

-- a slack that is answered is that of a valid plan
module _ (p : Plan) (n T : ℕ) where
  answer_is : slack_answer p n T ≡ asked p T (cond (port_ok n && crossed p (n - 1)) (result (slack p (n - 1) T)) (refusal not_crossed (0 ∷ [])))
  unfolding slack_answer
  answer_is = refl

  pub slack_result : {z : ℤ} → slack_answer p n T ≡ result z → (valid_plan p ≡ true) × (z ≡ slack p (n - 1) T)
  slack_result {z} e =
      let a = granted (valid_plan p) _ no_plan_held (0 ∷ []) z (sym answer_is ∙ e) in
      let b = granted (within 1 p.top T) _ bad_duration (0 ∷ []) z a.1 in
      let c = granted (port_ok n && crossed p (n - 1)) (result (slack p (n - 1) T)) not_crossed (0 ∷ []) z b.1 in
      let d = c.1 in
      (a.0, cc)

-- a list of such answers is one of slacks
pub answers_slacks : (p : Plan) (T : ℕ) (out : List ℤ) → HoldsAnswers p T out → HoldsSlacks p T out
answers_slacks p T out all q l on =
    let back : suc q - 1 ≡ q = omega arith in
    (slack_result p (suc q) T (all q on)).1 ∙ ap (λ (k : ℕ). slack p k T) back

-- so d ns more change it by no more than the bounds
pub slack_bounded : (p : Plan) (n T d : ℕ) → BoundedChange p n T d
slack_bounded p n T d z w first second =
    let a = slack_result p n T first in
    let b = slack_result p n (T + d) second in
    rw (a.1, b.1) (slack_rises p T d a.0 (n - 1), slack_falls p T d a.0 (n - 1))
