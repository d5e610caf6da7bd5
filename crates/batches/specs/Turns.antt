-- What serving in turn means for a plan that was placed.
use Rattle.std.specs.Prelude.{ℕ, ◌+◌, ◌*◌, ◌≤◌, ◌<◌, ◌≡◌, List, [], ◌∷◌, true, false}
use Rattle.std.proofs.Math.Option.{none, some}
use Rattle.cqf.specs.Plan.{Plan}
use Rattle.cqf.specs.Ceil.{ceil_div}
use Rattle.cqf.specs.FixedPoint.{steps_from, iterate}
use Rattle.answers.specs.Answer.{Answer, refusal}
use Rattle.answers.specs.Refusals.{bad_slot, occupied}
use Rattle.questions.specs.FixedPoint.{FixedPoint, fixed_point_answer}
use Rattle.batches.specs.Slot.{is_vacant, is_pending, is_answered, turn_steps, slot_by}
use Rattle.batches.specs.Batch.{Batch, slot_count, slot_at, place_answer, place_leaves, serve_answer, serve_leaves, collect_leaves}
use Rattle.batches.specs.Calls.{Call, after_from, turns, turns_of, collected, final_answer}

-- the final answer of a plan: that of a single iteration from 1 ns on with all its steps
abbrev pub single_answer : Plan → Answer FixedPoint
single_answer p = fixed_point_answer p 1 (steps_from p 1)

-- the turns within which a plan has it
unfoldable pub most_turns : Plan → ℕ
unfolding ceil_div steps_from
most_turns p = slot_count * ceil_div (steps_from p 1) turn_steps

-- Of plan p in slot s of a batch, where it was just placed, over any calls that follow.
pub record InTurn (placed : Batch) (s : ℕ) (p : Plan) (calls : List Call) : Type 0 where
  -- until it is collected, its slot has come as far as a turn's steps for each turn that told it, from 1 ns on
  pub reaches
      : collected placed s calls ≡ none
      → slot_at (after_from placed calls) s ≡ slot_by p (turn_steps * turns_of placed s calls) (iterate p 1 (turn_steps * turns_of placed s calls))
  -- while it is pending, no more than seven turns told others before its first turn, between two, and since its last
  pub fair
      : collected placed s calls ≡ none
      → is_pending (slot_at (after_from placed calls) s) ≡ true
      → turns calls < slot_count * (turns_of placed s calls + 1)
  -- after so many turns it has its final answer, or had it and was collected
  pub finishes : most_turns p ≤ turns calls → final_answer placed s calls ≡ some (single_answer p)
  -- and it never has another
  pub only : (a : Answer FixedPoint) → final_answer placed s calls ≡ some a → a ≡ single_answer p

-- Of a turn at any batch.
pub record Turn (b : Batch) : Type 0 where
  -- it tells a slot that is pending
  pub told : (s : ℕ) → serve_answer b ≡ some s → (s < slot_count) × (is_pending (slot_at b s) ≡ true)
  -- and with none that is, it tells none and changes nothing
  pub idle
      : ((s : ℕ) → s < slot_count → is_pending (slot_at b s) ≡ false)
      → (serve_answer b ≡ none) × (serve_leaves b ≡ b)
  -- where one is, it tells one
  pub busy : (s : ℕ) → s < slot_count → is_pending (slot_at b s) ≡ true → serve_answer b ≡ none → ⊥

-- Of a refusal at any batch: it leaves every slot, and the next one, as they were.
pub record Unchanged (b : Batch) : Type 0 where
  pub placing
      : (s : ℕ) (bytes : List ℕ) (number : ℕ) (values : List ℕ)
      → place_answer b s bytes ≡ refusal number values
      → place_leaves b s bytes ≡ b
  pub no_slot : (s : ℕ) → slot_count ≤ s → collect_leaves b s ≡ b
  pub no_answer : (s : ℕ) → is_answered (slot_at b s) ≡ false → collect_leaves b s ≡ b

-- Of placing and collecting at any batch, refused or not: the next slot stays what it was.
pub record NextKept (b : Batch) : Type 0 where
  pub placing : (s : ℕ) (bytes : List ℕ) → (place_leaves b s bytes).next ≡ b.next
  pub collecting : (s : ℕ) → (collect_leaves b s).next ≡ b.next

-- Of placing at any batch: 15 comes first, and then 27, whatever the bytes.
pub record PlacingRefused (b : Batch) (bytes : List ℕ) : Type 0 where
  pub no_slot : (s : ℕ) → slot_count ≤ s → place_answer b s bytes ≡ refusal bad_slot (0 ∷ [])
  pub no_room : (s : ℕ) → s < slot_count → is_vacant (slot_at b s) ≡ false → place_answer b s bytes ≡ refusal occupied (0 ∷ [])
