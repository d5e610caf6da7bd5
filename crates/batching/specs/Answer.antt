-- Document 02's number and values for each case of the answers, and what each call promises.
use Rattle.std.specs.Prelude.{ℕ, ◌≡◌, List, [], ◌∷◌, cond, eqb, Option as CodeOption, Some, None, Result, Ok, Err}
use Rattle.std.proofs.Math.Option.{Option, none, some}
use Rattle.plan.specs.Answer.{fault_number}
use Rattle.answers.specs.Answer.{Answer, result, refusal}
use Rattle.answers.specs.Refusals.{bad_duration, bad_slot, no_plan_held, no_least, occupied, unanswered}
use Rattle.loading.specs.Outcome.{Fields}
use Rattle.questions.specs.FixedPoint.{FixedPoint}
use Rattle.batches.specs.Batch.{Batch, place_answer, place_leaves, serve_answer, serve_leaves, collect_answer, collect_leaves}
use Rattle.batching.specs.Slots.{batch_of}
use Rattle.loading.specs.declared.Loaded.{Loaded}
use Rattle.questions.specs.declared.iteration.FixedPoint.{FixedPoint as Reached}
use Rattle.batching.specs.declared.PlaceRefusal.{PlaceRefusal}
use Rattle.batching.specs.declared.PlaceOutcome.{PlaceOutcome}
use Rattle.batching.specs.declared.ServeOutcome.{ServeOutcome}
use Rattle.batching.specs.declared.CollectRefusal.{CollectRefusal}
use Rattle.batching.specs.declared.CollectOutcome.{CollectOutcome}

abbrev pub place_of : Result Loaded PlaceRefusal → Answer Fields
place_of (Ok l) = result (record { ports = l.ports; flows = l.flows })
place_of (Err PlaceRefusal.NoSlot) = refusal bad_slot (0 ∷ [])
place_of (Err PlaceRefusal.Occupied) = refusal occupied (0 ∷ [])
place_of (Err (PlaceRefusal.Refused r)) = refusal (fault_number r.fault) (r.offset ∷ [])

abbrev pub serve_of : CodeOption ℕ → Option ℕ
serve_of (Some slot) = some slot
serve_of None = none

abbrev pub collect_of : Result Reached CollectRefusal → Answer FixedPoint
collect_of (Ok f) = result (record { duration = f.duration; steps = f.steps })
collect_of (Err (CollectRefusal.Failing port count steps)) = refusal no_least (port ∷ count ∷ steps ∷ [])
collect_of (Err CollectRefusal.NoPlan) = refusal no_plan_held (0 ∷ [])
collect_of (Err CollectRefusal.BadStart) = refusal bad_duration (0 ∷ [])
collect_of (Err CollectRefusal.NoSlot) = refusal bad_slot (0 ∷ [])
collect_of (Err CollectRefusal.Unanswered) = refusal unanswered (0 ∷ [])

-- the final answer of a slot of these numbers, where it has one
abbrev pub final_by : (state duration port count steps : ℕ) → Answer FixedPoint
final_by state duration port count steps =
    cond (eqb state 2)
    (result (record { duration = duration; steps = steps }))
    (cond (eqb state 3)
    (refusal no_least (port ∷ count ∷ steps ∷ []))
    (cond (eqb state 4) (refusal no_plan_held (0 ∷ [])) (refusal bad_duration (0 ∷ []))))

-- the calls: the answer, and the batch that is left
pub record Places (b : Batch) (slot : ℕ) (bytes : List ℕ) (outcome : PlaceOutcome) : Type 0 where
  pub answers : place_of outcome.answer ≡ place_answer b slot bytes
  pub leaves : batch_of outcome.batch ≡ place_leaves b slot bytes

pub record ServesTurn (b : Batch) (outcome : ServeOutcome) : Type 0 where
  pub answers : serve_of outcome.answer ≡ serve_answer b
  pub leaves : batch_of outcome.batch ≡ serve_leaves b

pub record Collects (b : Batch) (slot : ℕ) (outcome : CollectOutcome) : Type 0 where
  pub answers : collect_of outcome.answer ≡ collect_answer b slot
  pub leaves : batch_of outcome.batch ≡ collect_leaves b slot
