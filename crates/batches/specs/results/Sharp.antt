-- The bound of the turns is met with equality by every plan: placed eight times, its last slot has its final answer with the last of
-- these turns and not with the one before.
use Rattle.std.specs.Prelude.{◌≡◌, List, [], ◌∷◌, ◌++◌, true, cond, ◌&&◌, ltb, replicate}
use Rattle.std.proofs.Math.Path.{refl, ap}
use Rattle.std.proofs.Common.{◌∙◌}
use Prim.Native.Nat.{ℕ, zero, suc, ◌+◌, ◌*◌, ◌-◌, ◌<◌}
use native.Mathlib.Omega.{arith}
use Rattle.std.proofs.Math.ListN.{replicate-append-replicate}
use Rattle.cqf.specs.Bounded.{lowest}
use Rattle.cqf.specs.Plan.{Plan, valid_plan}
use Rattle.cqf.specs.Ceil.{ceil_div}
use Rattle.cqf.specs.FixedPoint.{steps_from, iterate}
use Rattle.cqf.proofs.laws.Ceil.{ceil_covers, ceil_before, ceil_positive}
use Rattle.plan_reading.specs.Reading.{accepted, loose, read_as_of}
use Rattle.plan_reading.specs.results.StrictTheorem.{read_loosely}
use Rattle.plan_reading.specs.laws.validity.Valid.{accepted_valid}
use Rattle.batches.specs.Slot.{Slot, vacant, pending, answered, is_vacant, is_pending, turn_steps, slot_by, turned}
use Rattle.batches.specs.Batch.{Batch, empty_batch, slot_count, slot_at, with_slot, place_leaves, serve_answer, serve_leaves}
use Rattle.batches.specs.Calls.{Call, place, serve, leaves, after_from, after}
use Rattle.batches.specs.Turns.{single_answer, most_turns}
use Rattle.batches.specs.laws.Slots.{of_pending, turn_more, settled, unsettled, positive_steps}

-- the same bytes into each slot, and then so many turns
unfoldable pub eight_times : List ℕ → (turns : ℕ) → List Call
eight_times s n =
    place 0 s ∷ place 1 s ∷ place 2 s ∷ place 3 s ∷ place 4 s ∷ place 5 s ∷ place 6 s ∷ place 7 s ∷ replicate n serve

-- a batch of eight equal slots
abbrev alike : Slot → Batch
alike x = record { slots = replicate slot_count x; next = 0 }

-- a turn for each, and for each but the last
module _ (p : Plan) (t n : ℕ) where
  all_served : after_from (alike (pending p t n)) (replicate slot_count serve) ≡ alike (turned p t n)
  unfolding after_from serve_leaves serve_answer lowest
  all_served = refl

  last_waits : slot_at (after_from (alike (pending p t n)) (replicate (slot_count - 1) serve)) 7 ≡ pending p t n
  unfolding after_from serve_leaves serve_answer lowest
  last_waits = refl

from_append : (xs ys : List Call) (b : Batch) → after_from b (xs ++ ys) ≡ after_from (after_from b xs) ys
unfolding after_from
from_append [] ys b = refl
from_append (c ∷ xs) ys b = from_append xs ys (leaves b c)

module _ (p : Plan) (valid : valid_plan p ≡ true) where
  abbrev slot_after_steps : ℕ → Slot
  slot_after_steps k = slot_by p k (iterate p 1 k)

  served_round
      : (q : ℕ)
      → turn_steps * q < steps_from p 1
      → (after_from (alike (slot_after_steps (turn_steps * q))) (replicate slot_count serve) ≡ alike (slot_after_steps (turn_steps * suc q)))
      × (is_pending (slot_at (after_from (alike (slot_after_steps (turn_steps * q))) (replicate (slot_count - 1) serve)) 7) ≡ true)
  served_round q l =
      let far = of_pending p (turn_steps * q) (iterate p 1 (turn_steps * q)) (unsettled p valid (turn_steps * q) l) in
      let steps : turn_steps * q + turn_steps ≡ turn_steps * suc q = omega arith in
      rw far.1 (
        all_served p far.0 (turn_steps * q) ∙ ap alike (turn_more p valid (turn_steps * q) far.0 far.1 ∙ ap slot_after_steps steps),
        ap is_pending (last_waits p far.0 (turn_steps * q)),
      )

  -- a turn for each so many times, while there are steps to come
  rounds
      : (q : ℕ)
      → turn_steps * q < steps_from p 1 + turn_steps
      → after_from (alike (pending p 1 0)) (replicate (slot_count * q) serve) ≡ alike (slot_after_steps (turn_steps * q))
  unfolding iterate after_from
  rounds zero l = refl
  rounds (suc q) l =
      let more : slot_count * suc q ≡ slot_count * q + slot_count = omega arith in
      rw (more, ← replicate-append-replicate (slot_count * q) slot_count serve)
      (from_append (replicate (slot_count * q) serve) (replicate slot_count serve) (alike (pending p 1 0))
      ∙ ap (λ b. after_from b (replicate slot_count serve)) (rounds q (omega arith))
      ∙ (served_round q (omega arith)).0)

-- Every plan, from its bytes.
module _ (bytes : List ℕ) (p : Plan) (ports flows : ℕ) (reads : read_as_of loose bytes ≡ accepted p ports flows) where
  valid : valid_plan p ≡ true
  valid = accepted_valid bytes p ports flows (read_loosely loose bytes p ports flows reads)

  -- the batch with this plan in its first slots, and one more
  abbrev first : ℕ → Batch
  first k = record { slots = replicate k (pending p 1 0) ++ replicate (slot_count - k) vacant; next = 0 }

  one_more
      : {b : Batch} (k : ℕ)
      → b ≡ first k
      → place_leaves b k bytes ≡ cond (ltb k slot_count && is_vacant (slot_at (first k) k)) (with_slot (first k) k (pending p 1 0)) (first k)
  unfolding place_leaves
  one_more k e = ap (λ c. place_leaves c k bytes) e ∙ rw reads

  all_placed : (n : ℕ) → after (eight_times bytes n) ≡ after_from (alike (pending p 1 0)) (replicate n serve)
  unfolding after empty_batch eight_times after_from
  all_placed n =
      ap (λ b. after_from b (replicate n serve))
      (one_more 7 (one_more 6 (one_more 5 (one_more 4 (one_more 3 (one_more 2 (one_more 1 (one_more 0 refl))))))))

  -- the plan in slot 7 is pending after one turn fewer
  pub sharp_before : is_pending (slot_at (after (eight_times bytes (most_turns p - 1))) 7) ≡ true
  unfolding most_turns
  sharp_before =
      let m = ceil_div (steps_from p 1) turn_steps - 1 in
      let some-steps = positive_steps p valid in
      let some-turns = ceil_positive {T = steps_from p 1} {P = turn_steps} some-steps (omega arith) in
      let first = ceil_before (steps_from p 1) m {P = turn_steps} (omega arith) (omega arith) in
      let steps : turn_steps * m < steps_from p 1 = omega arith in
      let split : most_turns p - 1 ≡ slot_count * m + (slot_count - 1) = omega arith in
      rw (all_placed (most_turns p - 1), split, ← replicate-append-replicate (slot_count * m) (slot_count - 1) serve)
      (ap (λ b. is_pending (slot_at b 7))
      (from_append (replicate (slot_count * m) serve) (replicate (slot_count - 1) serve) (alike (pending p 1 0))
      ∙ ap (λ b. after_from b (replicate (slot_count - 1) serve)) (rounds p valid m (omega arith)))
      ∙ (served_round p valid m steps).1)

  -- and has its final answer after these
  pub sharp_then : slot_at (after (eight_times bytes (most_turns p))) 7 ≡ answered (single_answer p)
  unfolding most_turns
  sharp_then =
      let m = ceil_div (steps_from p 1) turn_steps in
      let some-turns = ceil_positive {T = steps_from p 1} {P = turn_steps} (positive_steps p valid) (omega arith) in
      let last = ceil_before (steps_from p 1) (m - 1) {P = turn_steps} (omega arith) (omega arith) in
      let all = ceil_covers (steps_from p 1) {P = turn_steps} (omega arith) in
      ap (λ b. slot_at b 7) (all_placed (most_turns p) ∙ rounds p valid m (omega arith)) ∙ settled p valid (turn_steps * m) (omega arith)
