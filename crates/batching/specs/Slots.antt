-- What the code's slots are taken for, whatever their numbers.
use Rattle.std.specs.Prelude.{ℕ, [], ◌∷◌, map, Bool, cond, ◌&&◌, eqb, ltb}
use Rattle.cqf.specs.Bounded.{within}
use Rattle.cqf.specs.Plan.{Plan}
use Rattle.tables.specs.Tables.{plan_of}
use Rattle.answers.specs.Answer.{result, refusal}
use Rattle.answers.specs.Refusals.{bad_duration, no_plan_held, no_least}
use Rattle.batches.specs.Slot.{Slot, vacant, pending, answered}
use Rattle.batches.specs.Batch.{Batch}
use Rattle.batching.specs.declared.Slot as code
use Rattle.batching.specs.declared.Batch as code-batch

-- State 1 is a plan that is pending: each step from 1 ns on adds 1 ns or more, so it has made fewer steps than the duration says, or
-- the slot is taken for vacant. States 2 to 5 are final answers: a duration, 22, and for tables or durations that no call leaves 20
-- and 10. Any other state is a vacant slot.
unfoldable pub slot_by : Plan → (state duration port count steps : ℕ) → Slot
slot_by p state duration port count steps =
    cond (eqb state 1)
    (cond (ltb steps duration) (pending p duration steps) vacant)
    (cond (eqb state 2)
    (answered (result (record { duration = duration; steps = steps })))
    (cond (eqb state 3)
    (answered (refusal no_least (port ∷ count ∷ steps ∷ [])))
    (cond (eqb state 4)
    (answered (refusal no_plan_held (0 ∷ [])))
    (cond (eqb state 5) (answered (refusal bad_duration (0 ∷ []))) vacant))))

-- a slot that is pending, and one with a final answer, by their numbers
abbrev pub pends_by : (state duration steps : ℕ) → Bool
pends_by state duration steps = eqb state 1 && ltb steps duration

abbrev pub answered_by : (state : ℕ) → Bool
answered_by state = within 2 5 state

abbrev pub slot_of : code.Slot → Slot
slot_of x = slot_by (plan_of x.planner) x.state x.duration x.port x.count x.steps

abbrev pub batch_of : code-batch.Batch → Batch
batch_of b = record { slots = map slot_of b.slots; next = b.next }
