-- A batch (document 02: a desk) of eight slots, and what placing, serving and collecting answer and leave, for any batch and input.
use Rattle.std.specs.Prelude.{ℕ, suc, ◌+◌, ◌%◌, List, [], ◌∷◌, cond, ◌&&◌, ltb, get_or, set, replicate}
use Rattle.std.proofs.Math.Option.{Option, none, some}
use Rattle.cqf.specs.Bounded.{lowest}
use Rattle.plan_reading.specs.Reading.{PlanRead, accepted, rejected, loose, read_as_of}
use Rattle.answers.specs.Answer.{Answer, refusal}
use Rattle.answers.specs.Refusals.{bad_slot, occupied, unanswered}
use Rattle.loading.specs.Outcome.{Fields, load_answer}
use Rattle.questions.specs.FixedPoint.{FixedPoint}
use Rattle.batches.specs.Slot.{Slot, vacant, pending, answered, is_vacant, is_pending, is_answered, turned, advanced}

-- document 02: places 0 to 7
abbrev pub slot_count : ℕ
slot_count = 8

-- the slots, and the one after the last that was served
pub record Batch : Type 0 where
  pub slots : List Slot
  pub next : ℕ

-- at first there is no plan, and slot 0 is the next
unfoldable pub empty_batch : Batch
empty_batch = record { slots = replicate slot_count vacant; next = 0 }

abbrev pub slot_at : Batch → ℕ → Slot
slot_at b s = get_or b.slots s vacant

-- the batch with another slot s
abbrev pub with_slot : Batch → ℕ → Slot → Batch
with_slot b s x = record { slots = set b.slots s x; next = b.next }

-- Placing: 15 for no such slot, then 27 where a plan is, then what a loose load of the bytes answers.
unfoldable pub place_answer : Batch → ℕ → List ℕ → Answer Fields
unfolding load_answer
place_answer b s bytes =
    cond (ltb s slot_count)
    (cond (is_vacant (slot_at b s)) (load_answer loose bytes) (refusal occupied (0 ∷ [])))
    (refusal bad_slot (0 ∷ []))

-- the plan that was read, at 1 ns and with no step made
abbrev pub with_read : Batch → ℕ → PlanRead → Batch
with_read b s (accepted p ports flows) = with_slot b s (pending p 1 0)
with_read b s (rejected number offset) = b

unfoldable pub place_leaves : Batch → ℕ → List ℕ → Batch
unfolding read_as_of
place_leaves b s bytes = cond (ltb s slot_count && is_vacant (slot_at b s)) (with_read b s (read_as_of loose bytes)) b

-- the slot i after the next one, going round
abbrev pub slot_after : Batch → ℕ → ℕ
slot_after b i = (b.next + i) % slot_count

-- the slot that a turn serves: the first pending one from the next on, going round; none where no slot is pending
unfoldable pub serve_answer : Batch → Option ℕ
unfolding lowest
serve_answer b =
    let i = lowest slot_count (λ k. is_pending (slot_at b (slot_after b k))) in
    cond (ltb i slot_count) (some (slot_after b i)) none

abbrev pub served : Batch → Option ℕ → Batch
served b none = b
served b (some s) = record { slots = set b.slots s (advanced (slot_at b s)); next = suc s % slot_count }

unfoldable pub serve_leaves : Batch → Batch
unfolding serve_answer turned
serve_leaves b = served b (serve_answer b)

-- Collecting: 15 for no such slot, then the final answer, or 28 where there is none.
abbrev pub final_in : Slot → Answer FixedPoint
final_in vacant = refusal unanswered (0 ∷ [])
final_in (pending p t n) = refusal unanswered (0 ∷ [])
final_in (answered a) = a

unfoldable pub collect_answer : Batch → ℕ → Answer FixedPoint
collect_answer b s = cond (ltb s slot_count) (final_in (slot_at b s)) (refusal bad_slot (0 ∷ []))

unfoldable pub collect_leaves : Batch → ℕ → Batch
collect_leaves b s = cond (ltb s slot_count && is_answered (slot_at b s)) (with_slot b s vacant) b
