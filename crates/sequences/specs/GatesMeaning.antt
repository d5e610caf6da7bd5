-- What the answer that a gate control list was written means, of the plan held after every sequence of calls.
use Rattle.std.specs.Prelude.{◌≡◌, List, ℕ}
use Rattle.cqf.specs.Plan.{Plan}
use Rattle.answers.specs.Answer.{Answer, result}
use Rattle.sequences.specs.Meaning.{OfHeld}
use Rattle.sequences.specs.Scheduled.{Schedules}

-- the bytes written play two cycles of that plan
abbrev pub GatesMean : Plan → (T even odd : ℕ) → (buffer exit : List ℕ) → Answer ℕ → Type 0
GatesMean tables T even odd buffer exit answer = OfHeld tables (λ p. (n : ℕ) → answer ≡ result n → Schedules p T even odd buffer exit n)
