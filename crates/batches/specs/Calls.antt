-- Sequences of calls from the empty batch, each given the batch as the call before left it; and the turns among them.
use Rattle.std.specs.Prelude.{ℕ, ◌+◌, List, [], ◌∷◌, Bool, true, false, cond, eqb}
use Rattle.std.proofs.Math.Option.{Option, none, some}
use Rattle.answers.specs.Answer.{Answer}
use Rattle.questions.specs.FixedPoint.{FixedPoint}
use Rattle.batches.specs.Slot.{Slot, vacant, pending, answered}
use Rattle.batches.specs.Batch.{Batch, empty_batch, slot_at, place_leaves, serve_answer, serve_leaves, collect_leaves}

pub data Call : Type 0 where
  place : (slot : ℕ) (bytes : List ℕ) → Call
  serve : Call
  collect : (slot : ℕ) → Call

abbrev pub leaves : Batch → Call → Batch
leaves b (place s bytes) = place_leaves b s bytes
leaves b serve = serve_leaves b
leaves b (collect s) = collect_leaves b s

unfoldable pub after_from : Batch → List Call → Batch
unfolding place_leaves serve_leaves collect_leaves
after_from b [] = b
after_from b (c ∷ cs) = after_from (leaves b c) cs

-- the batch after a sequence of calls
unfoldable pub after : List Call → Batch
unfolding after_from empty_batch
after calls = after_from empty_batch calls

-- whether a call is a turn
abbrev pub is_turn : Call → Bool
is_turn (place s bytes) = false
is_turn serve = true
is_turn (collect s) = false

-- one where it is so
abbrev pub one : Bool → ℕ
one x = cond x 1 0

-- how many turns were made
unfoldable pub turns : List Call → ℕ
turns [] = 0
turns (c ∷ cs) = one (is_turn c) + turns cs

-- whether a call is a turn that tells slot s
abbrev pub tells : ℕ → Option ℕ → Bool
tells s none = false
tells s (some t) = eqb t s

abbrev pub serves : Batch → ℕ → Call → Bool
serves b s (place t bytes) = false
serves b s serve = tells s (serve_answer b)
serves b s (collect t) = false

-- how many of the turns from batch b on tell slot s
unfoldable pub turns_of : Batch → ℕ → List Call → ℕ
unfolding serve_answer after_from
turns_of b s [] = 0
turns_of b s (c ∷ cs) = one (serves b s c) + turns_of (leaves b c) s cs

-- the final answer in a slot
abbrev pub final_of : Slot → Option (Answer FixedPoint)
final_of vacant = none
final_of (pending p t n) = none
final_of (answered a) = some a

-- the final answer that a call collects from slot s
abbrev pub collects : Batch → ℕ → Call → Option (Answer FixedPoint)
collects b s (place t bytes) = none
collects b s serve = none
collects b s (collect t) = cond (eqb t s) (final_of (slot_at b s)) none

-- the first that the calls from batch b on collect from slot s
abbrev pub or_else : Option (Answer FixedPoint) → Option (Answer FixedPoint) → Option (Answer FixedPoint)
or_else none y = y
or_else (some a) y = some a

unfoldable pub collected : Batch → ℕ → List Call → Option (Answer FixedPoint)
unfolding after_from
collected b s [] = none
collected b s (c ∷ cs) = or_else (collects b s c) (collected (leaves b c) s cs)

-- the final answer of the plan that is in slot s of batch b, once the calls are made: collected from there, or there still
unfoldable pub final_answer : Batch → ℕ → List Call → Option (Answer FixedPoint)
unfolding collected after_from
final_answer b s calls = or_else (collected b s calls) (final_of (slot_at (after_from b calls) s))
