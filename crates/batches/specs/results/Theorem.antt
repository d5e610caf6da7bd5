-- The theorems of batches: over every sequence of calls, and of a turn at any batch.
use Rattle.std.specs.Prelude.{◌≡◌, List, [], ◌∷◌, Bool, true, false, cond, ◌&&◌, ℕ, ◌*◌, ◌≤◌, ◌<◌, ltb}
use Rattle.std.proofs.Math.Path.{refl, sym, ap}
use Rattle.std.proofs.Common.{◌∙◌, add-zero, arith, lt-ltb, le-ltb}
use Rattle.std.proofs.Math.Option.{Option, none, some, some-injective}
use Rattle.std.proofs.lemmas.Bool.{false≢true}
use Rattle.std.proofs.Math.Decide.{dec_le}
use Rattle.cqf.specs.Plan.{Plan, valid_plan}
use Rattle.cqf.specs.FixedPoint.{steps_from}
use Rattle.cqf.proofs.laws.Ceil.{ceil_covers}
use Rattle.plan_reading.specs.Reading.{PlanRead, accepted, rejected, loose, read_as_of}
use Rattle.plan_reading.specs.results.StrictTheorem.{read_loosely}
use Rattle.plan_reading.specs.laws.validity.Valid.{accepted_valid}
use Rattle.answers.specs.Answer.{Answer, result, refusal, refusal_number}
use Rattle.answers.specs.Refusals.{bad_slot, occupied}
use Rattle.loading.specs.Outcome.{reading_answer, load_answer}
use Rattle.questions.specs.FixedPoint.{FixedPoint}
use Rattle.batches.specs.Slot.{vacant, pending, is_vacant, is_pending, is_answered, turn_steps}
use Rattle.batches.specs.Batch.{Batch, slot_count, slot_at, with_slot, with_read, place_answer, place_leaves, serve_answer, served, serve_leaves, collect_leaves}
use Rattle.batches.specs.Calls.{Call, place, after, after_from, leaves, turns, turns_of, final_of, or_else, collected, final_answer}
use Rattle.batches.specs.Turns.{single_answer, most_turns, InTurn, Turn, Unchanged, NextKept, PlacingRefused}
use Rattle.batches.specs.laws.Slots.{answer_single, pending_before, settled, unsettled}
use Rattle.batches.specs.laws.Turns.{serves_told, serves-none, gap, gap_below, gap_there}
use Rattle.batches.specs.laws.Calls.{Goes, goes_on, collected_answer, final_there}
use Rattle.batches.specs.laws.Placed.{after_sized, placed_slot, placed_goes}

-- Every plan that was placed, over every sequence of calls before and after.
module _
    (before : List Call) (s : ℕ) (bytes : List ℕ) (p : Plan) (ports flows : ℕ)
    (reads : read_as_of loose bytes ≡ accepted p ports flows)
    (places : refusal_number (place_answer (after before) s bytes) ≡ 0)
  where
    abbrev placed : Batch
    placed = leaves (after before) (place s bytes)

    valid : valid_plan p ≡ true
    valid = accepted_valid bytes p ports flows (read_loosely loose bytes p ports flows reads)

    here : s < slot_count
    here = placed_slot (after before) s bytes p ports flows (after_sized before) reads places

    start : Goes s p placed 0 0
    start = placed_goes (after before) s bytes p ports flows (after_sized before) reads places

    -- where it was not collected: what the turns since have made of its slot
    along : (calls : List Call) → collected placed s calls ≡ none → Goes s p (after_from placed calls) (turns calls) (turns_of placed s calls)
    along calls e = rw (add-zero (turns calls), add-zero (turns_of placed s calls)) at (goes_on s p here valid calls placed 0 0 start e)

    final : (calls : List Call) (a : Answer FixedPoint) → final_answer placed s calls ≡ some a → a ≡ single_answer p
    unfolding final_answer
    final calls a e = go (collected placed s calls) refl e
      where
        go
            : (o : Option (Answer FixedPoint))
            → collected placed s calls ≡ o
            → or_else o (final_of (slot_at (after_from placed calls) s)) ≡ some a
            → a ≡ single_answer p
        go none q r =
            let g = along calls q in
            answer_single p valid (turn_steps * turns_of placed s calls) a (sym g.at ∙ final_there (slot_at (after_from placed calls) s) a r)
        go (some d) q r =
            sym (some-injective d a r) ∙ collected_answer s p here valid calls placed 0 0 d start q

    -- a slot that is pending has had too few turns
    few : (calls : List Call) → collected placed s calls ≡ none → is_pending (slot_at (after_from placed calls) s) ≡ true → turns calls < most_turns p
    unfolding most_turns
    few calls e pends =
        let g = along calls e in
        let j = turns_of placed s calls in
        let steps = pending_before p valid (turn_steps * j) (sym (ap is_pending g.at) ∙ pends) in
        omega (arith, g.paced pends, steps, ceil_covers (steps_from p 1) {P = turn_steps} (omega arith))

    finished : (calls : List Call) → most_turns p ≤ turns calls → final_answer placed s calls ≡ some (single_answer p)
    unfolding final_answer
    finished calls l = go (collected placed s calls) refl
      where
        there : (g : Goes s p (after_from placed calls) (turns calls) (turns_of placed s calls))
            → collected placed s calls ≡ none
            → Dec (steps_from p 1 ≤ turn_steps * turns_of placed s calls)
            → final_of (slot_at (after_from placed calls) s) ≡ some (single_answer p)
        there g q (yes k) = ap final_of (g.at ∙ settled p valid (turn_steps * turns_of placed s calls) k)
        there g q (no k) =
            let pends = ap is_pending g.at ∙ unsettled p valid (turn_steps * turns_of placed s calls) (omega arith) in
            absurd (omega (arith, few calls q pends))

        go : (o : Option (Answer FixedPoint)) → collected placed s calls ≡ o → or_else o (final_of (slot_at (after_from placed calls) s)) ≡ some (single_answer p)
        go none q = there (along calls q) q (dec_le (steps_from p 1) (turn_steps * turns_of placed s calls))
        go (some d) q = ap some (collected_answer s p here valid calls placed 0 0 d start q)

    pub in_turn : (calls : List Call) → InTurn placed s p calls
    in_turn calls =
        record {
          reaches = λ e. (along calls e).at;
          fair = λ e pends. let g = along calls e in omega (arith, g.paced pends);
          finishes = finished calls;
          only = final calls;
        }

-- a turn at any batch
pub turn : (b : Batch) → Turn b
unfolding serve_leaves
turn b =
    record {
      told = λ s e. let v = serves_told b s e in (omega (arith, v.is), v.pends);
      idle = λ none-pends.
          let e = idle_tells none-pends in (e, ap (served b) e);
      busy = λ s h pends e.
          false≢true (sym (serves-none b e (gap b s) (gap_below b s)) ∙ ap (λ k. is_pending (slot_at b k)) (gap_there b s h) ∙ pends);
    }
  where
    tells : (o : Option ℕ) → serve_answer b ≡ o → ((s : ℕ) → s < slot_count → is_pending (slot_at b s) ≡ false) → serve_answer b ≡ none
    tells none e none-pends = e
    tells (some s) e none-pends =
        let v = serves_told b s e in
        absurd (false≢true (sym (none-pends s (omega (arith, v.is))) ∙ v.pends))

    idle_tells : ((s : ℕ) → s < slot_count → is_pending (slot_at b s) ≡ false) → serve_answer b ≡ none
    idle_tells = tells (serve_answer b) refl

-- a refusal at any batch
is_refusal : {A : Type 0} → Answer A → Bool
is_refusal (result a) = false
is_refusal (refusal number values) = true

place_unchanged
    : (b : Batch) (s : ℕ) (bytes : List ℕ) (number : ℕ) (values : List ℕ)
    → place_answer b s bytes ≡ refusal number values
    → place_leaves b s bytes ≡ b
unfolding place_answer place_leaves load_answer is_refusal
place_unchanged b s bytes number values e = go (ltb s slot_count) (is_vacant (slot_at b s)) (read_as_of loose bytes) e
  where
    go
        : (x y : Bool) (r : PlanRead)
        → cond x (cond y (reading_answer r) (refusal occupied (0 ∷ []))) (refusal bad_slot (0 ∷ [])) ≡ refusal number values
        → cond (x && y) (with_read b s r) b ≡ b
    go true true (accepted p ports flows) q = absurd (false≢true (ap is_refusal q))
    go true true (rejected n offset) q = refl
    go true false r q = refl
    go false y r q = refl

kept : (x : Bool) (b c : Batch) → cond (x && false) c b ≡ b
kept true b c = refl
kept false b c = refl

pub unchanged : (b : Batch) → Unchanged b
unfolding collect_leaves
unchanged b =
    record {
      placing = place_unchanged b;
      no_slot = λ s over. rw (le-ltb s slot_count over);
      no_answer = λ s none-there. rw none-there (kept (ltb s slot_count) b (with_slot b s vacant));
    }

-- placing and collecting leave the next slot
pub next_kept : (b : Batch) → NextKept b
unfolding place_leaves collect_leaves
next_kept b =
    record {
      placing = λ s bytes. placed (ltb s slot_count && is_vacant (slot_at b s)) s (read_as_of loose bytes);
      collecting = λ s. either (ltb s slot_count && is_answered (slot_at b s)) (with_slot b s vacant) refl;
    }
  where
    either : (x : Bool) (c : Batch) → c.next ≡ b.next → (cond x c b).next ≡ b.next
    either true c e = e
    either false c e = refl

    placed : (x : Bool) (s : ℕ) (r : PlanRead) → (cond x (with_read b s r) b).next ≡ b.next
    placed x s (accepted p ports flows) = either x (with_slot b s (pending p 1 0)) refl
    placed x s (rejected number offset) = either x b refl

-- 15 comes first, then 27
pub placing_refused : (b : Batch) (bytes : List ℕ) → PlacingRefused b bytes
unfolding place_answer
placing_refused b bytes =
    record {
      no_slot = λ s over. rw (le-ltb s slot_count over);
      no_room = λ s l taken. rw (lt-ltb s slot_count l, taken);
    }

-- a final answer that is collected empties its slot, be it 22 or a duration, and changes nothing else
pub emptied : (b : Batch) (s : ℕ) → s < slot_count → is_answered (slot_at b s) ≡ true → collect_leaves b s ≡ with_slot b s vacant
unfolding collect_leaves
emptied b s l there = rw (lt-ltb s slot_count l, there)
