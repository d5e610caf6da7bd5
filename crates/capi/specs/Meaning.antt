-- What the numbers of an answer mean.
use Rattle.std.specs.Prelude.{ℕ, ◌≡◌, List}
use Rattle.answers.specs.Refusals.{not_admissible}
use Rattle.sequences.specs.Meaning.{MeansHeld, OfHeld}
use Rattle.cqf.specs.Plan.{Plan}
use Rattle.sequences.specs.FixedPointMeaning.{StepsMeanHeld}
use Rattle.sequences.specs.Scheduled.{Schedules}
use Rattle.sequences.specs.SpansMeaning.{SpanMeansHeld, SpansMeanHeld}
use Rattle.sequences.specs.NearestMeaning.{NearestMeansHeld}
use Rattle.questions.specs.declared.one_span.SpanRecord.{SpanRecord}
use Rattle.capi.specs.declared.AnswerNumbers.{AnswerNumbers}
use Rattle.capi.specs.declared.FixedPointAnswerNumbers.{FixedPointAnswerNumbers}
use Rattle.capi.specs.Numbers.{search_numbers, span_numbers, nearest_numbers, steps_numbers}

-- 21 refuses the duration, 0 accepts it (document 01, demand 3)
abbrev pub CheckNumbersMean : Plan → ℕ → AnswerNumbers → Type 0
CheckNumbersMean tables T numbers = MeansHeld tables T (numbers.refusal ≡ not_admissible) (numbers.refusal ≡ 0)

-- the numbers of an answer of the fixed-point iteration mean what the answer means
abbrev pub StepsNumbersMean : Plan → (start steps : ℕ) → FixedPointAnswerNumbers → Type 0
StepsNumbersMean tables start steps numbers = StepsMeanHeld tables start steps (λ a. numbers ≡ steps_numbers a)

-- where the number is 0, the bytes written play two cycles of the plan held
abbrev pub GatesNumbersMean : Plan → (T even odd : ℕ) → (buffer exit : List ℕ) → AnswerNumbers → Type 0
GatesNumbersMean tables T even odd buffer exit numbers =
    OfHeld tables (λ p. numbers.refusal ≡ 0 → Schedules p T even odd buffer exit numbers.first)

-- the numbers of an answer that names spans mean what the answer means
abbrev pub SpanNumbersMean : Plan → (T : ℕ) → AnswerNumbers → Type 0
SpanNumbersMean tables T numbers = SpanMeansHeld tables T (λ a. numbers ≡ span_numbers a)

abbrev pub SpansNumbersMean : Plan → (list exit : List SpanRecord) → AnswerNumbers → Type 0
SpansNumbersMean tables list exit numbers = SpansMeanHeld tables list exit (λ a. numbers ≡ search_numbers a)

-- the numbers of an answer that names the nearest durations mean what the answer means: no duration is 0, so 0 says that there is none
abbrev pub NearestNumbersMean : Plan → (T : ℕ) → AnswerNumbers → Type 0
NearestNumbersMean tables T numbers = NearestMeansHeld tables T (λ a. numbers ≡ nearest_numbers a)
