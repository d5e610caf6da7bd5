-- Steps of single ports: what they have passed, and where they end.
use Rattle.std.specs.Prelude.{◌≡◌, true, false, ℕ, suc, ◌≤◌, ◌<◌}
use Rattle.std.proofs.Common.{sym, ◌∙◌, le_refl, arith}
use Rattle.std.proofs.Math.Decide.{dec_lt}
use Rattle.cqf.specs.Plan.{Plan, valid_plan}
use Rattle.cqf.specs.Condition.{admissible, least}
use Rattle.cqf.specs.Need.{least_from}
use Rattle.cqf.specs.PortSteps.{PortSteps, begin, next}
use Rattle.cqf.proofs.laws.Condition.{demand_pos}
use Rattle.cqf.proofs.laws.Need.{need_some, fails-crossed, not_admissible, jump_up}
use Rattle.cqf.proofs.laws.LeastFrom.{least_from_is, least_from_none, least_from_first}
use Rattle.cqf.proofs.laws.Ranges.{crossed_rate}
use Rattle.cqf.proofs.laws.Search.{fails-need}

-- steps and then steps from where they led
pub steps_then : {p : Plan} {a b c : ℕ} → PortSteps p a b → PortSteps p b c → PortSteps p a c
steps_then s begin = s
steps_then s (next r q slot e) = next (steps_then s r) q slot e

module _ (p : Plan) (valid : valid_plan p ≡ true) {d : ℕ} (first : 1 ≤ d) where
  -- they never fall
  pub steps_from : {t : ℕ} → PortSteps p d t → d ≤ t
  steps_from begin = le_refl d
  steps_from (next {t = t} s q slot e) =
      let from = steps_from s in
      omega (arith, fails-need p valid t q (omega arith) e)

  -- no duration that they passed is admissible, since the port that took the step fails up to what it needs
  pub steps_passed : {t : ℕ} → PortSteps p d t → (u : ℕ) → d ≤ u → u < t → admissible p u ≡ false
  steps_passed begin u h l = absurd (omega arith)
  steps_passed (next {t = t} s q slot e) u h l = go (dec_lt u t) (λ below. steps_passed s u h below)
    where
      go : Dec (u < t) → (u < t → admissible p u ≡ false) → admissible p u ≡ false
      go (yes below) before = before below
      go (no above) before =
          let from = steps_from s in
          let crossed = fails-crossed p t q e in
          let busy = demand_pos p q t valid (omega arith) crossed in
          not_admissible p u q slot
          (jump_up p t u q (crossed_rate p valid q crossed) e (omega arith) (omega (arith, need_some p q t busy)))

  -- where they end at an admissible duration, that is the least from the start on; where they pass top, there is none
  pub steps_end : {t : ℕ} → PortSteps p d t → t ≤ p.top → admissible p t ≡ true → least_from p d ≡ t
  steps_end {t = t} s within good = least_from_is p d t first (steps_from s) within good (steps_passed s)

  pub steps_none : {t : ℕ} → PortSteps p d t → p.top < t → least_from p d ≡ suc p.top
  steps_none s above = least_from_none p d (λ u h l. steps_passed s u h (omega arith))

-- from 1 ns on this is the least duration
module _ (p : Plan) (valid : valid_plan p ≡ true) {t : ℕ} (s : PortSteps p 1 t) where
  pub steps_least : t ≤ p.top → admissible p t ≡ true → least p ≡ t
  steps_least within good = sym (least_from_first p) ∙ steps_end p valid (le_refl 1) s within good

  pub steps_above : p.top < t → least p ≡ suc p.top
  steps_above above = sym (least_from_first p) ∙ steps_none p valid (le_refl 1) s above
