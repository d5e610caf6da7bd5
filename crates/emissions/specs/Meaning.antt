-- What holds of the bad emission of a port that fails, and what an answer to the question for the first unsent frame means.
use Rattle.std.specs.Prelude.{◌≡◌, true, false, ℕ, suc, ◌-◌, ◌≤◌, ◌<◌}
use Rattle.std.proofs.Math.Option.{Option, none, some}
use Rattle.cqf.specs.Limits.{port_slots}
use Rattle.cqf.specs.Plan.{Plan, valid_plan}
use Rattle.cqf.specs.Condition.{admissible, lowest_failing}
use Rattle.cqf.specs.Emission.{Keeps}
use Rattle.cqf.specs.Cycles.{Permitted}
use Rattle.cqf.specs.Run.{Places, running, stopped, run, queued_bits, overrun_at}
use Rattle.answers.specs.Answer.{Answer, result}
use Rattle.emissions.specs.BadEmission.{burst_cycle, burst_frames, bad_emission, bad_cycles}
use Rattle.emissions.specs.Unsent.{Unsent}

-- Of the port in slot q. Its earliest burst is in cycle 0. It keeps every contract, and its cycles are permitted. The run goes on to the
-- cycle that is told and stops in it: there the port in the slot that is told must send so many bits, which are more than the most that it
-- can send, and leaves a frame unsent, and no lower port does.
pub record LeftUnsent (p : Plan) (T q cycle slot bits most : ℕ) : Type 0 where
  pub earliest : (f : ℕ) × (0 < burst_frames p T q f) × (burst_cycle p q f ≡ 0)
  pub keeps : Keeps p (bad_emission p T q)
  pub permitted : Permitted p T (bad_emission p T q) (bad_cycles p T q)
  pub places : Places
  pub goes : run p T (bad_cycles p T q) cycle ≡ running places
  pub stops : run p T (bad_cycles p T q) (suc cycle) ≡ stopped
  pub low : slot < port_slots
  pub must : queued_bits p (bad_cycles p T q) places slot ≡ bits
  pub more : most < bits
  pub unsent : overrun_at p T bits slot ≡ true
  pub lower : (r : ℕ) → r < slot → overrun_at p T (queued_bits p (bad_cycles p T q) places r) r ≡ false

-- An answer, by what it is: of a refused duration it tells the lowest port that fails and what its bad emission leaves unsent, of an
-- accepted one that there is none.
pub record Tells (p : Plan) (T : ℕ) (Is : Answer (Option Unsent) → Type 0) : Type 0 where
  pub refused
      : admissible p T ≡ false
      → (u : Unsent)
      × Is (result (some u))
      × (u.failing ≡ lowest_failing p T)
      × LeftUnsent p T (u.failing - 1) u.cycle (u.port - 1) u.bits u.most
  pub accepted : admissible p T ≡ true → Is (result none)

-- of a valid plan, and a duration from 1 to its top
abbrev pub UnsentMeans : Plan → (T : ℕ) → Answer (Option Unsent) → Type 0
UnsentMeans p T answer = valid_plan p ≡ true → 1 ≤ T → T ≤ p.top → Tells p T (λ a. answer ≡ a)
