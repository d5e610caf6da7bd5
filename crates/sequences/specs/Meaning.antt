-- What an answer of the plain question means, for every sequence of calls, every emission and its whole run.
use Rattle.std.specs.Prelude.{◌≡◌, ◌↔◌, List, [], ◌∷◌, ℕ, ◌≤◌}
use Rattle.std.proofs.Math.Option.{some}
use Rattle.cqf.specs.Plan.{Plan}
use Rattle.cqf.specs.LargeEnough.{Counterexample, OrderedCounterexample, AllOnTime}
use Rattle.plan_reading.specs.Reading.{accepted, Mode, read_as_of}
use Rattle.answers.specs.Answer.{Answer, result, refusal}
use Rattle.answers.specs.Refusals.{not_admissible}
use Rattle.sequences.specs.Calls.{Call, after, held_bytes}

-- the answer is refusal 21
pub record Refuses (answer : Answer (Unit {0})) : Type 0 where
  pub lowest : ℕ
  pub count : ℕ
  pub is : answer ≡ refusal not_admissible (lowest ∷ count ∷ [])

-- An answer that refuses T, and one that accepts it. T is refused exactly when some emission that keeps every flow's contract
-- leaves a frame unsent in some permitted cycles, and then one with its nominal instants in order does; it is accepted exactly when
-- none does, in order or not; and then every frame of every such emission is on time in all of them.
pub record Means (p : Plan) (T : ℕ) (refuses accepts : Type 0) : Type 0 where
  pub refused : refuses ↔ Counterexample p T
  pub refused_in_order : refuses → OrderedCounterexample p T
  pub accepted : accepts ↔ (Counterexample p T → ⊥)
  pub on_time : accepts → AllOnTime p T

-- What is said of the plan held, after every sequence of calls that leaves the planner at these tables: the plan is the one in the
-- bytes of the last load in which the rules of its reading find no refusal. The mode is any: bytes that either load accepts say
-- the same plan in both (`strict-accepts`), so what is said holds however they are read.
abbrev pub OfHeld : Plan → (Plan → Type 0) → Type 0
OfHeld tables Says =
    (calls : List Call) (mode : Mode) (bytes : List ℕ) (p : Plan) (ports flows : ℕ)
    → tables ≡ after calls
    → held_bytes calls ≡ some bytes
    → read_as_of mode bytes ≡ accepted p ports flows
    → Says p

-- that an answer means what it says, of a T from 1 to the top of that plan
abbrev pub MeansHeld : Plan → ℕ → (refuses accepts : Type 0) → Type 0
MeansHeld tables T refuses accepts = OfHeld tables (λ p. 1 ≤ T → T ≤ p.top → Means p T refuses accepts)

-- of an answer of the plain question: 21 refuses, the result accepts (document 01, demand 3)
abbrev pub CheckMeans : Plan → ℕ → Answer (Unit {0}) → Type 0
CheckMeans tables T answer = MeansHeld tables T (Refuses answer) (answer ≡ result tt)
