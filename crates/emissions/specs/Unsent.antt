-- What the question for the first frame that is left unsent answers, for any tables and any duration: of the bad emission of the lowest
-- port that fails, the first cycle in which a frame is left unsent, and the lowest port there.
use Rattle.std.specs.Prelude.{ℕ, suc, ◌-◌, ◌/◌, cond, [], ◌∷◌, Some, None, Result, Ok, Err}
use Rattle.std.specs.Prelude as std
use Rattle.std.proofs.Math.Option.{Option, none, some}
use Rattle.cqf.specs.Plan.{Plan, blocking_of, extra_of, valid_plan}
use Rattle.cqf.specs.Port.{ns_per_bit, blocking_bits_of, capacity}
use Rattle.cqf.specs.Condition.{admissible, lowest_failing}
use Rattle.answers.specs.Answer.{Answer, result, refusal}
use Rattle.answers.specs.Refusals.{bad_duration, no_plan_held}
use Rattle.questions.specs.Outcome.{asked}
use Rattle.emissions.specs.BadEmission.{first_unsent, unsent_slot, burst_bits}
use Rattle.emissions.specs.declared.unsent.Unsent as code
use Rattle.emissions.specs.declared.unsent.UnsentRefusal.{UnsentRefusal}

-- the bits that a port can send in one cycle behind the longest frame of another class
unfoldable pub sendable : Plan → (T r : ℕ) → ℕ
unfolding capacity
sendable p T r = capacity p r T / ns_per_bit - blocking_bits_of (blocking_of p r) (extra_of p r)

-- the port that fails, whose emission it is; the cycle, the port that leaves a frame unsent in it, the bits that this one must send
-- there and those that it can send
pub record Unsent : Type 0 where
  pub failing : ℕ
  pub cycle : ℕ
  pub port : ℕ
  pub bits : ℕ
  pub most : ℕ

unfoldable pub unsent : Plan → (T q : ℕ) → Unsent
unfolding first_unsent unsent_slot burst_bits sendable
unsent p T q =
    record {
      failing = suc q;
      cycle = first_unsent p T q;
      port = suc (unsent_slot p T q);
      bits = burst_bits p T q (first_unsent p T q) (unsent_slot p T q);
      most = sendable p T (unsent_slot p T q);
    }

-- 20, 10, then none of an admissible duration
unfoldable pub unsent_answer : Plan → (T : ℕ) → Answer (Option Unsent)
unfolding unsent valid_plan admissible lowest_failing
unsent_answer p T = asked p T (result (cond (admissible p T) none (some (unsent p T (lowest_failing p T - 1)))))

-- the number and values for each case of the code's answer
abbrev pub told_unsent : code.Unsent → Unsent
told_unsent u = record { failing = u.failing; cycle = u.cycle; port = u.port; bits = u.bits; most = u.most }

abbrev pub unsent_of : Result (std.Option code.Unsent) UnsentRefusal → Answer (Option Unsent)
unsent_of (Ok (Some u)) = result (some (told_unsent u))
unsent_of (Ok None) = result none
unsent_of (Err UnsentRefusal.NoPlan) = refusal no_plan_held (0 ∷ [])
unsent_of (Err UnsentRefusal.BadDuration) = refusal bad_duration (0 ∷ [])
