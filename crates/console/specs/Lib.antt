-- What is loaded of the input.
use Rattle.std.specs.Prelude.{◌≡◌, List, ℕ, ◌+◌, ◌≤◌, length, take, Option, Some, None, Result, Ok, Err, IfOk, IfSome}
use Rattle.cqf.specs.Plan.{no_plan}
use Rattle.plan.specs.Answer.{fault_number}
use Rattle.plan.specs.declared.Refusal.{Refusal}
use Rattle.plan_reading.specs.Reading.{loose, max_bytes}
use Rattle.loading.specs.Answer.{Loads}
use Rattle.loading.specs.declared.LoadOutcome.{LoadOutcome}
use Rattle.converting.specs.declared.ConvertRefusal.{ConvertRefusal}
use Rattle.streams.specs.declared.output.Unheld.{Unheld}
use Rattle.console.specs.declared.held.HeldPlan.{HeldPlan}
pub mod laws

-- what a converter wrote lies within so many bytes
abbrev pub Inside : ℕ → Result ℕ ConvertRefusal → Type 0
Inside room answer = IfOk answer (λ n. n ≤ room)

-- what became of reading into a buffer, and of loading what was read: the first bytes of the buffer are loaded loosely into the empty
-- planner; where nothing could be read, nothing is loaded
abbrev pub LoadedAs : (buffer : List ℕ) → Option ℕ → Option LoadOutcome → Type 0
LoadedAs buffer (Some n) (Some outcome) = Loads loose no_plan 0 (take n buffer) outcome
LoadedAs buffer (Some n) None = ⊥
LoadedAs buffer None (Some outcome) = ⊥
LoadedAs buffer None None = Unit {0}

-- The same of the input of a program, of which one byte more than a plan may have is read. No contract can say which bytes an input
-- has.
pub record LoadedInput (given : Option LoadOutcome) : Type 0 where
  pub buffer : List ℕ
  pub room : length buffer ≡ max_bytes + 1
  pub read : Option ℕ
  pub within : IfSome read (λ n. n ≤ length buffer)
  pub loaded : LoadedAs buffer read given

-- what is held of an input: the planner that the load leaves, where it accepts; otherwise its refusal, or that nothing could be read
abbrev pub HeldAs : Option LoadOutcome → Result HeldPlan Unheld → Type 0
HeldAs (Some outcome) (Ok held) = (held.planner ≡ outcome.planner) × (outcome.answer ≡ Ok held.loaded)
HeldAs (Some outcome) (Err unheld) = (r : Refusal) × (outcome.answer ≡ Err r) × (unheld ≡ Unheld.Refused (fault_number r.fault) r.offset)
HeldAs None (Ok held) = ⊥
HeldAs None (Err unheld) = unheld ≡ Unheld.Unreadable

pub record HeldInputAs (held : Result HeldPlan Unheld) : Type 0 where
  pub given : Option LoadOutcome
  pub loaded : LoadedInput given
  pub held_as : HeldAs given held
