-- The theorem of the bad emission: the answer to the question for the first unsent frame means what is said of it. Of a duration that is
-- refused, the bad emission of the lowest port that fails keeps every contract, and its run stops in the cycle that is told.
use Rattle.std.specs.Prelude.{◌≡◌, true, false, ℕ, suc, ◌-◌, ◌≤◌}
use Rattle.std.proofs.Common.{sym, arith}
use Rattle.std.proofs.Math.Path.{subst}
use Rattle.std.proofs.Math.Option.{Option}
use Rattle.cqf.specs.Plan.{Plan, valid_plan}
use Rattle.cqf.specs.Condition.{admissible, lowest_failing}
use Rattle.answers.specs.Answer.{Answer}
use Rattle.emissions.specs.BadEmission.{first_unsent, unsent_slot, burst_bits}
use Rattle.emissions.specs.Unsent.{Unsent, sendable, unsent, unsent_answer}
use Rattle.emissions.specs.Meaning.{LeftUnsent, Tells, UnsentMeans}
use Rattle.emissions.specs.laws.Unsent.{left_unsent}
use Rattle.emissions.specs.laws.Answers.{unsent_refused, unsent_accepted, failing_slot, failing-least, sub_suc}

suc_sub : (n : ℕ) → 1 ≤ n → suc (n - 1) ≡ n
suc_sub n l = omega arith

module _ (p : Plan) (T : ℕ) (valid : valid_plan p ≡ true) (low : 1 ≤ T) (high : T ≤ p.top) where
  pub bad_emission
      : admissible p T ≡ false
      → (let q = lowest_failing p T - 1 in
      LeftUnsent p T q (first_unsent p T q) (unsent_slot p T q) (burst_bits p T q (first_unsent p T q) (unsent_slot p T q)) (sendable p T (unsent_slot p T q)))
  bad_emission bad = let s = failing_slot p T bad in left_unsent p valid T low (lowest_failing p T - 1) s.0 s.1

  -- of the numbers that are told
  told : admissible p T ≡ false → (let u = unsent p T (lowest_failing p T - 1) in (u.failing ≡ lowest_failing p T) × LeftUnsent p T (u.failing - 1) u.cycle (u.port - 1) u.bits u.most)
  unfolding unsent
  told bad =
      let q = lowest_failing p T - 1 in
      let slot = unsent_slot p T q in
      let left = bad_emission bad in
      let by-slot = subst (λ (n : ℕ). LeftUnsent p T q (first_unsent p T q) n (burst_bits p T q (first_unsent p T q) slot) (sendable p T slot)) (sym (sub_suc slot)) left in
      (suc_sub (lowest_failing p T) (failing-least p T), subst (λ (n : ℕ). LeftUnsent p T n (first_unsent p T q) (suc slot - 1) (burst_bits p T q (first_unsent p T q) slot) (sendable p T slot)) (sym (sub_suc q)) by-slot)

  tells : Tells p T (λ a. unsent_answer p T ≡ a)
  tells =
      record {
        refused = λ bad. (unsent p T (lowest_failing p T - 1), unsent_refused p T valid low high bad, (told bad).0, (told bad).1);
        accepted = unsent_accepted p T valid low high;
      }

pub unsent_means : (p : Plan) (T : ℕ) → UnsentMeans p T (unsent_answer p T)
unsent_means p T valid low high = tells p T valid low high

-- the same of an answer that is the definition's
pub unsent_told
    : (p : Plan) (T : ℕ) (answer : Answer (Option Unsent))
    → answer ≡ unsent_answer p T
    → (answer ≡ unsent_answer p T) × UnsentMeans p T answer
unsent_told p T answer is = (is, subst (λ (a : Answer (Option Unsent)). UnsentMeans p T a) (sym is) (unsent_means p T))
