-- An outcome as numbers: document 01's refusal number, 0 for a result, and up to three numbers with it.
use Rattle.std.specs.Prelude.{ℕ, List, [], ◌∷◌, ◌++◌, cond, eqb, get_or, ℤ, pos}
use Rattle.std.proofs.Math.Option.{Option, none, some}
use Rattle.answers.specs.Answer.{Answer, result, refusal}
use Rattle.loading.specs.Outcome.{Fields}
use Rattle.cqf.specs.Form.{Form, older, newer}
use Rattle.plan.specs.Layout.{Kind, layout}
use Rattle.plan.specs.Field.{FieldRead, field, refused}
use Rattle.questions.specs.FixedPoint.{FixedPoint}
use Rattle.questions.specs.Nearest.{Nearest}
use Rattle.batches.specs.Batch.{slot_count}
use Rattle.span_lists.specs.Span.{Span}
use Rattle.capi.specs.declared.AnswerNumbers.{AnswerNumbers}
use Rattle.capi.specs.declared.SlackAnswerNumbers.{SlackAnswerNumbers}
use Rattle.capi.specs.declared.FixedPointAnswerNumbers.{FixedPointAnswerNumbers}
use Rattle.capi.specs.declared.FieldReadNumbers.{FieldReadNumbers}

abbrev pub answer_numbers : ℕ → ℕ → ℕ → AnswerNumbers
answer_numbers number first second = record { refusal = number; first = first; second = second }

-- a refusal's number and the first two of what it carries
abbrev pub refused_with : ℕ → List ℕ → AnswerNumbers
refused_with number [] = answer_numbers number 0 0
refused_with number (a ∷ []) = answer_numbers number a 0
refused_with number (a ∷ b ∷ rest) = answer_numbers number a b

abbrev pub load_numbers : Answer Fields → AnswerNumbers
load_numbers (result fields) = answer_numbers 0 fields.ports fields.flows
load_numbers (refusal number values) = refused_with number values

abbrev pub check_numbers : Answer (Unit {0}) → AnswerNumbers
check_numbers (result u) = answer_numbers 0 0 0
check_numbers (refusal number values) = refused_with number values

abbrev pub search_numbers : Answer ℕ → AnswerNumbers
search_numbers (result duration) = answer_numbers 0 duration 0
search_numbers (refusal number values) = refused_with number values

-- the first and the last duration
abbrev pub span_numbers : Answer Span → AnswerNumbers
span_numbers (result span) = answer_numbers 0 span.first span.last
span_numbers (refusal number values) = refused_with number values

-- a duration, or 0 for none
abbrev pub duration_number : Option ℕ → ℕ
duration_number none = 0
duration_number (some t) = t

-- the nearest durations below and above
abbrev pub nearest_numbers : Answer Nearest → AnswerNumbers
nearest_numbers (result n) = answer_numbers 0 (duration_number n.below) (duration_number n.above)
nearest_numbers (refusal number values) = refused_with number values

-- the length written; 13 has the length needed, 21 the lowest failing port and how many, a plan that is refused its offset
abbrev pub written_numbers : Answer ℕ → AnswerNumbers
written_numbers (result size) = answer_numbers 0 size 0
written_numbers (refusal number values) = refused_with number values

abbrev pub slack_answer_numbers : ℕ → ℤ → SlackAnswerNumbers
slack_answer_numbers number slack = record { refusal = number; slack = slack }

abbrev pub slack_numbers : Answer ℤ → SlackAnswerNumbers
slack_numbers (result z) = slack_answer_numbers 0 z
slack_numbers (refusal number values) = slack_answer_numbers number (pos 0)

-- an answer that says last how many steps were used
abbrev pub steps_answer_numbers : ℕ → ℕ → ℕ → ℕ → FixedPointAnswerNumbers
steps_answer_numbers number first second steps = record { refusal = number; first = first; second = second; steps = steps }

abbrev pub stepped_with : ℕ → List ℕ → FixedPointAnswerNumbers
stepped_with number [] = steps_answer_numbers number 0 0 0
stepped_with number (a ∷ []) = steps_answer_numbers number a 0 0
stepped_with number (a ∷ n ∷ []) = steps_answer_numbers number a 0 n
stepped_with number (a ∷ b ∷ n ∷ rest) = steps_answer_numbers number a b n

abbrev pub steps_numbers : Answer FixedPoint → FixedPointAnswerNumbers
steps_numbers (result r) = steps_answer_numbers 0 r.duration 0 r.steps
steps_numbers (refusal number values) = stepped_with number values

-- the slot that a turn served: 8 for none
abbrev pub served_number : Option ℕ → ℕ
served_number none = slot_count
served_number (some slot) = slot

-- six numbers of these, 0 behind them
abbrev pub six : List ℕ → List ℕ
six l = get_or l 0 0 ∷ get_or l 1 0 ∷ get_or l 2 0 ∷ get_or l 3 0 ∷ get_or l 4 0 ∷ get_or l 5 0 ∷ []

-- a field's tag and its numbers, and how many ports its route has
abbrev pub field_numbers : FieldRead → FieldReadNumbers
field_numbers (field x next) =
    record { refusal = 0; tag = (layout x.kind).tag; offset = next; numbers = six (x.numbers ++ (x.hops ∷ [])) }
field_numbers (refused number offset) = record { refusal = number; tag = 0; offset = offset; numbers = six [] }

-- the form of which a flow's tag is: the older one for any tag but the newer flow's
abbrev pub form_by_tag : ℕ → Form
form_by_tag tag = cond (eqb tag (layout Kind.flow2).tag) newer older
