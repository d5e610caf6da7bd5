-- What the question for a flow's part in the bad emission of a port answers, for any tables and any input. Tables that are not valid
-- count as no plan held (refusal 20).
use Rattle.std.specs.Prelude.{ℕ, suc, ◌-◌, cond, ◌&&◌, List, [], ◌∷◌, ltb, Some, None, Result, Ok, Err}
use Rattle.std.specs.Prelude as std
use Rattle.std.proofs.Math.Option.{Option, none, some}
use Rattle.cqf.specs.Bounded.{within, elem}
use Rattle.cqf.specs.Limits.{port_ok, flow_ok}
use Rattle.cqf.specs.Plan.{Plan, period_of, valid_plan}
use Rattle.answers.specs.Answer.{Answer, result, refusal}
use Rattle.answers.specs.Refusals.{bad_duration, no_plan_held, not_crossed, absent_flow}
use Rattle.emissions.specs.BadEmission.{hop_on, burst_cycle, burst_frames, burst_instant}
use Rattle.emissions.specs.declared.burst.Burst as code
use Rattle.emissions.specs.declared.burst.BurstRefusal.{BurstRefusal}

-- where the port in slot q stands on a route, 0 where it does not
abbrev pub late_on : List ℕ → (q : ℕ) → ℕ
late_on route q = cond (elem (suc q) route) (hop_on route q) 0

-- a flow's part: the cycle of its burst, how many frames it has, and the instant of frame k, none from behind the last
pub record Burst : Type 0 where
  pub cycle : ℕ
  pub frames : ℕ
  pub instant : Option ℕ

unfoldable pub burst : Plan → (T q f k : ℕ) → Burst
unfolding burst_cycle burst_frames burst_instant
burst p T q f k =
    record {
      cycle = burst_cycle p q f;
      frames = burst_frames p T q f;
      instant = cond (ltb k (burst_frames p T q f)) (some (burst_instant p T q f k)) none;
    }

-- 20, 10, then 24 for a port outside 1 to 64, then 29 for a flow that is not in the plan
unfoldable pub burst_answer : Plan → (T port flow k : ℕ) → Answer Burst
unfolding burst valid_plan
burst_answer p T port flow k =
    cond (valid_plan p)
    (cond (within 1 p.top T)
    (cond (port_ok port)
    (cond (flow_ok flow && ltb 0 (period_of p (flow - 1)))
    (result (burst p T (port - 1) (flow - 1) k))
    (refusal absent_flow (0 ∷ [])))
    (refusal not_crossed (0 ∷ [])))
    (refusal bad_duration (0 ∷ [])))
    (refusal no_plan_held (0 ∷ []))

-- the number and values for each case of the code's answer
abbrev pub instant_is : std.Option ℕ → Option ℕ
instant_is (Some t) = some t
instant_is None = none

abbrev pub told_burst : code.Burst → Burst
told_burst b = record { cycle = b.cycle; frames = b.frames; instant = instant_is b.instant }

abbrev pub burst_of : Result code.Burst BurstRefusal → Answer Burst
burst_of (Ok b) = result (told_burst b)
burst_of (Err BurstRefusal.NoPlan) = refusal no_plan_held (0 ∷ [])
burst_of (Err BurstRefusal.BadDuration) = refusal bad_duration (0 ∷ [])
burst_of (Err BurstRefusal.BadPort) = refusal not_crossed (0 ∷ [])
burst_of (Err BurstRefusal.AbsentFlow) = refusal absent_flow (0 ∷ [])
