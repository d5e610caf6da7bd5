-- A batch after calls has its eight slots, and a plan that is placed stands at the start of its search.
use Rattle.std.specs.Prelude.{◌≡◌, refl, List, [], ◌∷◌, Bool, cond, ◌&&◌, ℕ, ◌<◌, ltb, length}
use Rattle.std.proofs.Common.{◌∙◌, arith, ltb-true}
use Rattle.std.proofs.Math.Option.{Option, none, some}
use Rattle.std.proofs.Math.Bool.{true, false}
use Rattle.std.proofs.Math.ListN.{length-set}
use Rattle.std.proofs.Math.Seq.{get_or-set_same}
use Rattle.cqf.specs.Plan.{Plan}
use Rattle.cqf.specs.FixedPoint.{iterate}
use Rattle.plan_reading.specs.Reading.{PlanRead, accepted, rejected, loose, read_as_of}
use Rattle.answers.specs.Answer.{refusal, refusal_number}
use Rattle.loading.specs.Outcome.{load_answer}
use Rattle.batches.specs.Slot.{vacant, pending, is_vacant, is_answered, advanced}
use Rattle.batches.specs.Batch.{Batch, empty_batch, slot_count, slot_at, with_slot, with_read, place_answer, place_leaves, serve_answer, served, serve_leaves, collect_leaves}
use Rattle.batches.specs.Calls.{Call, place, serve, collect, leaves, after_from, after}
use Rattle.batches.specs.laws.Turns.{gap_below}
use Rattle.batches.specs.laws.Calls.{Goes}

abbrev Sized : Batch → Type 0
Sized b = length b.slots ≡ slot_count

read_sized : (b : Batch) (s : ℕ) (r : PlanRead) → Sized b → Sized (with_read b s r)
read_sized b s (accepted p ports flows) l = length-set b.slots s (pending p 1 0) ∙ l
read_sized b s (rejected number offset) l = l

served_sized : (b : Batch) (o : Option ℕ) → Sized b → Sized (served b o)
served_sized b none l = l
served_sized b (some s) l = length-set b.slots s (advanced (slot_at b s)) ∙ l

cond_sized : (x : Bool) (b c : Batch) → Sized b → Sized c → Sized (cond x b c)
cond_sized true b c l m = l
cond_sized false b c l m = m

call_sized : (b : Batch) (c : Call) → Sized b → Sized (leaves b c)
unfolding place_leaves serve_leaves collect_leaves
call_sized b (place s bytes) l = cond_sized (ltb s slot_count && is_vacant (slot_at b s)) _ b (read_sized b s (read_as_of loose bytes) l) l
call_sized b serve l = served_sized b (serve_answer b) l
call_sized b (collect s) l = cond_sized (ltb s slot_count && is_answered (slot_at b s)) _ b (length-set b.slots s vacant ∙ l) l

from_sized : (calls : List Call) (b : Batch) → Sized b → Sized (after_from b calls)
unfolding after_from
from_sized [] b l = l
from_sized (c ∷ cs) b l = from_sized cs (leaves b c) (call_sized b c l)

pub after_sized : (calls : List Call) → length (after calls).slots ≡ slot_count
unfolding after empty_batch
after_sized calls = from_sized calls empty_batch refl

module _ (b : Batch) (s : ℕ) (bytes : List ℕ) (p : Plan) (ports flows : ℕ) where
  -- a placing that is not refused has a slot that is vacant
  placed_where : refusal_number (place_answer b s bytes) ≡ 0 → (ltb s slot_count ≡ true) × (is_vacant (slot_at b s) ≡ true)
  unfolding place_answer
  placed_where e = go (ltb s slot_count) (is_vacant (slot_at b s)) e
    where
      go
          : (x y : Bool)
          → refusal_number (cond x (cond y (load_answer loose bytes) (refusal 27 (0 ∷ []))) (refusal 15 (0 ∷ []))) ≡ 0
          → (x ≡ true) × (y ≡ true)
      go true true q = (refl, refl)
      go true false q = absurd (omega arith)
      go false y q = absurd (omega arith)

  module _ (sized : length b.slots ≡ slot_count) (reads : read_as_of loose bytes ≡ accepted p ports flows) (places : refusal_number (place_answer b s bytes) ≡ 0) where
    pub placed_slot : s < slot_count
    placed_slot = ltb-true s slot_count (placed_where places).0

    placed-leaves : place_leaves b s bytes ≡ with_slot b s (pending p 1 0)
    unfolding place_leaves
    placed-leaves = rw ((placed_where places).0, (placed_where places).1, reads)

    pub placed_goes : Goes s p (place_leaves b s bytes) 0 0
    unfolding iterate
    placed_goes =
        rw placed-leaves
        (record {
          sized = length-set b.slots s (pending p 1 0) ∙ sized;
          at = get_or-set_same b.slots s (pending p 1 0) vacant (rw sized placed_slot);
          paced = λ h. omega (arith, gap_below (with_slot b s (pending p 1 0)) s);
        })
