-- What the large-enough-cycle theorem says of one plan and one duration T (000, Theorem 1; document 01, demand 3).
use Rattle.std.specs.Prelude.{◌≡◌, ◌↔◌, true, false, ℕ, suc, ◌+◌, ◌*◌, ◌≤◌, ◌<◌, length, get_or}
use Rattle.cqf.specs.Plan.{Plan, route_of, clocks_equal}
use Rattle.cqf.specs.Condition.{admissible}
use Rattle.cqf.specs.Emission.{Emission, Keeps, NominalsInOrder}
use Rattle.cqf.specs.Cycles.{Cycles, Permitted}
use Rattle.cqf.specs.Run.{Overruns, Leaves, MayEnd}

-- an emission that keeps every contract and, in some permitted cycles, leaves a frame unsent
pub record Counterexample (p : Plan) (T : ℕ) : Type 0 where
  pub emission : Emission
  pub keeps : Keeps p emission
  pub cycles : Cycles
  pub permitted : Permitted p T emission cycles
  pub overruns : Overruns p T cycles

-- one whose nominal instants also never fall: it keeps the contract too where that asks their order
pub record OrderedCounterexample (p : Plan) (T : ℕ) : Type 0 where
  pub one : Counterexample p T
  pub ordered : NominalsInOrder one.keeps

-- Frame k of flow f, emitted at t in the cycle own and with h ports on its route, leaves the last of them in the h-th cycle after
-- its own and in no other. Where clocks are taken as equal, in every cycle in which it leaves that port, and for every instant at
-- which its sending in that cycle may end, its delay, from t to that end, is at least (h - 1) T and at most (h + 1) T.
pub record OnTime (p : Plan) (T : ℕ) (cycles : Cycles) (f k t own h : ℕ) : Type 0 where
  pub leaves : Leaves p T cycles f k (own + h)
  pub once : (c : ℕ) → Leaves p T cycles f k c → c ≡ own + h
  pub delay
      : clocks_equal p ≡ true
      → (c end : ℕ)
      → Leaves p T cycles f k c
      → MayEnd p T c end
      → (t + h * T ≤ end + T) × (end ≤ t + suc h * T)

-- every frame of every emission that keeps the contracts is on time, in all permitted cycles
abbrev pub AllOnTime : Plan → ℕ → Type 0
AllOnTime p T =
    (e : Emission)
    → Keeps p e
    → (cycles : Cycles)
    → Permitted p T e cycles
    → (f k : ℕ)
    → k < length (e f)
    → OnTime p T cycles f k (get_or (e f) k 0) (get_or (cycles f) k 0) (length (route_of p f))

-- T is refused exactly when some emission that keeps every contract leaves a frame unsent in some permitted cycles, and then one
-- with its nominal instants in order does; where T is accepted, every frame of every such emission, in order or not, is on time in
-- all of them
pub record LargeEnough (p : Plan) (T : ℕ) : Type 0 where
  pub refused : admissible p T ≡ false ↔ Counterexample p T
  pub refused_in_order : admissible p T ≡ false → OrderedCounterexample p T
  pub accepted : admissible p T ≡ true → AllOnTime p T
