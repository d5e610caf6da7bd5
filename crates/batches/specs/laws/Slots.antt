-- A plan's slot after so many steps from 1 ns on: where it is, what a turn more gives, and that its answer is the single one's.
use Rattle.std.specs.Prelude.{◌≡◌, Bool, false, cond, ℕ, ◌+◌, ◌≤◌, ◌<◌, leb}
use Rattle.std.proofs.Math.Path.{refl}
use Rattle.std.proofs.Common.{sym, ap, ◌∙◌, le_refl, arith}
use Rattle.std.proofs.Math.Bool.{true}
use Rattle.std.proofs.lemmas.Bool.{false≢true}
use Rattle.std.proofs.Math.Decide.{dec_le}
use borrow.Author.Tests.{le-leb}
use Rattle.cqf.specs.Bounded.{within}
use Rattle.cqf.specs.Plan.{Plan, valid_plan}
use Rattle.cqf.specs.Need.{least_from}
use Rattle.cqf.specs.FixedPoint.{steps_from, Outcome, found, none, unfinished, iterate, ended, Converges}
use Rattle.cqf.proofs.laws.Ranges.{top_positive}
use Rattle.cqf.proofs.laws.Ended.{ended-none}
use Rattle.cqf.proofs.laws.Converges.{converges}
use Rattle.answers.specs.Answer.{Answer}
use Rattle.questions.specs.FixedPoint.{FixedPoint, outcome_answer, fixed_point_answer}
use Rattle.questions.specs.laws.Answers.{fixed_point_within}
use Rattle.batches.specs.Slot.{Slot, vacant, pending, answered, is_vacant, is_pending, turn_steps, slot_by, turned}
use Rattle.batches.specs.Turns.{single_answer}

-- the answer in a slot
abbrev answer_or : Answer FixedPoint → Slot → Answer FixedPoint
answer_or b vacant = b
answer_or b (pending p t n) = b
answer_or b (answered a) = a

-- a plan's slot is not vacant, and pending where the outcome is unfinished
pub not_vacant : (p : Plan) (n : ℕ) (o : Outcome) → is_vacant (slot_by p n o) ≡ false
not_vacant p n (found t k) = refl
not_vacant p n (none k) = refl
not_vacant p n (unfinished t) = refl

pub of_pending : (p : Plan) (n : ℕ) (o : Outcome) → is_pending (slot_by p n o) ≡ true → (t : ℕ) × (o ≡ unfinished t)
of_pending p n (found t k) h = absurd (false≢true h)
of_pending p n (none k) h = absurd (false≢true h)
of_pending p n (unfinished t) h = (t, refl)

-- an iteration that ended: its answer does not hang on how many steps were given
ended_slot : (p : Plan) (n m t k : ℕ) → slot_by p n (ended p t k) ≡ answered (outcome_answer p m (ended p t k))
ended_slot p n m t k = go (leb t p.top)
  where
    go : (x : Bool) → slot_by p n (cond x (found t k) (none k)) ≡ answered (outcome_answer p m (cond x (found t k) (none k)))
    go true = refl
    go false = refl

module _ (p : Plan) (valid : valid_plan p ≡ true) where
  first : Converges p 1
  first = converges p valid 1 (le_refl 1) (top_positive p valid)

  -- the answer of so many steps from 1 ns on
  pub answer_of : (n : ℕ) → fixed_point_answer p 1 n ≡ outcome_answer p n (iterate p 1 n)
  answer_of n =
      let ranged : within 1 p.top 1 ≡ true = rw (le-leb 1 p.top (top_positive p valid)) in
      fixed_point_within p 1 n valid ranged

  -- a turn more
  pub turn_more : (n t : ℕ) → iterate p 1 n ≡ unfinished t → turned p t n ≡ slot_by p (n + turn_steps) (iterate p 1 (n + turn_steps))
  unfolding turned
  turn_more n t e =
      let there = first.reached n t e in
      let ranged : within 1 p.top t ≡ true = rw (le-leb 1 t there.0, le-leb t p.top there.1) in
      rw (valid, ranged, first.resumes n turn_steps t e)

  -- with all steps the slot has the answer of the single iteration
  pub settled : (n : ℕ) → steps_from p 1 ≤ n → slot_by p n (iterate p 1 n) ≡ answered (single_answer p)
  settled n l =
      ap (slot_by p n) (first.ends n l)
      ∙ ended_slot p n (steps_from p 1) (least_from p 1) (steps_from p 1)
      ∙ ap (λ o. answered (outcome_answer p (steps_from p 1) o)) (sym (first.ends (steps_from p 1) (le_refl _)))
      ∙ ap answered (sym (answer_of (steps_from p 1)))

  -- with fewer it is pending
  pub unsettled : (n : ℕ) → n < steps_from p 1 → is_pending (slot_by p n (iterate p 1 n)) ≡ true
  unsettled n l = ap (λ o. is_pending (slot_by p n o)) (first.stops n l)

  -- so an answer is that one, and a pending slot has steps to come
  pub answer_single : (n : ℕ) (a : Answer FixedPoint) → slot_by p n (iterate p 1 n) ≡ answered a → a ≡ single_answer p
  answer_single n a e = go (dec_le (steps_from p 1) n)
    where
      go : Dec (steps_from p 1 ≤ n) → a ≡ single_answer p
      go (yes l) = ap (answer_or a) (sym e ∙ settled n l)
      go (no l) = absurd (false≢true (sym (ap is_pending e) ∙ unsettled n (omega arith)))

  pub pending_before : (n : ℕ) → is_pending (slot_by p n (iterate p 1 n)) ≡ true → n < steps_from p 1
  pending_before n h = go (dec_le (steps_from p 1) n)
    where
      go : Dec (steps_from p 1 ≤ n) → n < steps_from p 1
      go (yes l) = absurd (false≢true (sym (ap is_pending (settled n l)) ∙ h))
      go (no l) = omega arith

  pub positive_steps : 0 < steps_from p 1
  unfolding iterate
  positive_steps = pending_before 0 refl

  -- an iteration that found none took all of its steps
  pub none_steps : (n k : ℕ) → iterate p 1 n ≡ none k → steps_from p 1 ≡ k
  none_steps n k e = go (dec_le (steps_from p 1) n)
    where
      go : Dec (steps_from p 1 ≤ n) → steps_from p 1 ≡ k
      go (yes l) = (ended-none p (least_from p 1) (steps_from p 1) (sym (first.ends n l) ∙ e)).0
      go (no l) = let d = sym e ∙ first.stops n (omega arith) in absurd (let z : ◌≡◌ {A = ℕ} 0 1 = cc in omega arith)
