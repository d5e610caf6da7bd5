-- The bad emission as numbers: the refusal, 0 for a result, and what is told with it.
use Rattle.std.specs.Prelude.{ℕ, ◌-◌, ◌^◌}
use Rattle.std.proofs.Math.Option.{Option, none, some}
use Rattle.answers.specs.Answer.{Answer, result, refusal}
use Rattle.emissions.specs.Burst.{Burst}
use Rattle.emissions.specs.Unsent.{Unsent}
use Rattle.capi.specs.declared.BurstAnswerNumbers.{BurstAnswerNumbers}
use Rattle.capi.specs.declared.UnsentAnswerNumbers.{UnsentAnswerNumbers}

-- an instant; where the burst has no such frame, the largest number of 64 bits
abbrev pub instant_number : Option ℕ → ℕ
instant_number none = 2 ^ 64 - 1
instant_number (some t) = t

abbrev pub burst_refused : ℕ → BurstAnswerNumbers
burst_refused number = record { refusal = number; cycle = 0; frames = 0; instant = 0 }

abbrev pub burst_numbers : Answer Burst → BurstAnswerNumbers
burst_numbers (result b) = record { refusal = 0; cycle = b.cycle; frames = b.frames; instant = instant_number b.instant }
burst_numbers (refusal number values) = burst_refused number

abbrev pub unsent_refused : ℕ → UnsentAnswerNumbers
unsent_refused number = record { refusal = number; failing = 0; port = 0; cycle = 0; bits = 0; most = 0 }

-- ports of 0 where the duration is admissible
abbrev pub unsent_numbers : Answer (Option Unsent) → UnsentAnswerNumbers
unsent_numbers (result (some u)) =
    record { refusal = 0; failing = u.failing; port = u.port; cycle = u.cycle; bits = u.bits; most = u.most }
unsent_numbers (result none) = unsent_refused 0
unsent_numbers (refusal number values) = unsent_refused number
