-- The theorem of the lighter plan over sequences of calls. After two sequences, where the plan that the second holds is lighter than
-- the one that the first holds, each duration that the plain question accepts after the first it accepts after the second; and
-- where `least` gives the first a duration, it gives the second one that is no larger. The same holds of `margin_safe`.
use Rattle.std.specs.Prelude.{◌≡◌, List, ℕ, ◌≤◌}
use Rattle.std.proofs.Math.Option.{some}
use Rattle.std.proofs.Math.Bool.{true}
use Rattle.std.proofs.Common.{arith}
use Rattle.cqf.specs.Bounded.{within}
use Rattle.cqf.specs.Plan.{Plan, valid_plan}
use Rattle.cqf.specs.Condition.{least, margin_safe}
use Rattle.cqf.specs.Lighter.{Lighter}
use Rattle.cqf.proofs.results.LighterTheorem.{no_worse}
use Rattle.plan_reading.specs.Reading.{accepted, Mode, read_as_of}
use Rattle.plan_reading.specs.results.StrictTheorem.{read_loosely}
use Rattle.plan_reading.specs.laws.validity.Valid.{accepted_valid}
use Rattle.answers.specs.Refusals.{no_least, no_margin_safe}
use Rattle.questions.specs.Outcome.{searched, least_answer, margin_safe_answer}
use Rattle.sequences.specs.Calls.{Call, after, held_bytes}
use Rattle.sequences.specs.NoWorse.{SearchNoWorse, AnswersNoWorse}
use Rattle.questions.specs.laws.Answers.{check_accepts, check_admissible}
use Rattle.sequences.specs.laws.Calls.{after_held}
use Rattle.questions.specs.laws.Searched.{searched-found, searched_gives}

module _ (second first : Plan) (valid-second : valid_plan second ≡ true) where
  -- a search, whatever it looks for
  search_no_worse
      : (number : ℕ) (sought : Plan → ℕ)
      → (sought first ≤ first.top → (sought second ≤ second.top) × (sought second ≤ sought first))
      → SearchNoWorse (λ p scratch. searched number p (sought p) scratch) second first
  search_no_worse number sought sooner scratch other T _ long gives =
      let found = searched-found number first (sought first) scratch T gives in
      let h = sooner found.1 in
      record {
        duration = sought second;
        is = searched_gives number second (sought second) other valid-second long h.0;
        within = omega (arith, h.1, found.0);
      }

  module _ (valid-first : valid_plan first ≡ true) (lighter : Lighter second first) where
    answers_no_worse : AnswersNoWorse second first
    unfolding least_answer margin_safe_answer
    answers_no_worse =
        let h = no_worse second first valid-second lighter in
        record {
          durations = λ T said.
              let good = check_accepts first T valid-first said in
              let ranged : within 1 second.top T ≡ true = rw lighter.top good.0 in
              check_admissible second T valid-second ranged (h.durations T good.1);
          leasts = search_no_worse no_least least h.leasts;
          margin_safes = search_no_worse no_margin_safe margin_safe h.margin_safes;
        }

-- of the plans in the bytes of the last load of each sequence in which the rules of its reading find no refusal
pub lighter_answers
    : (calls others : List Call) (mode mode' : Mode) (s t : List ℕ) (first second : Plan) (ports flows otherPorts otherFlows : ℕ)
    → held_bytes calls ≡ some s
    → read_as_of mode s ≡ accepted first ports flows
    → held_bytes others ≡ some t
    → read_as_of mode' t ≡ accepted second otherPorts otherFlows
    → Lighter second first
    → AnswersNoWorse (after others) (after calls)
lighter_answers calls others mode mode' s t first second m n m' n' held reads kept reads' lighter =
    rw (after_held calls mode s held first m n reads, after_held others mode' t kept second m' n' reads')
    (answers_no_worse second first
    (accepted_valid t second m' n' (read_loosely mode' t second m' n' reads'))
    (accepted_valid s first m n (read_loosely mode s first m n reads))
    lighter)
