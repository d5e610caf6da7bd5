-- Emissions and the contract that they keep (document 01, "Emissions and runs", with release jitter as document 02 adds it).
use Rattle.std.specs.Prelude.{◌≡◌, List, [], false, ℕ, suc, ◌+◌, ◌≤◌, ◌<◌, length, get_or}
use Rattle.cqf.specs.Plan.{Plan, present, period_of, count_of, jitter_of}

-- for the flow of each slot, the instants in ns at which it emits a frame
abbrev pub Emission : Type 0
Emission = ℕ → List ℕ

-- A frame is released from 0 to J ns after its nominal instant. That may lie before 0, but no further than J since t does not, so
-- nominal is the nominal instant with J added: its instant t is no earlier than nominal - J, and at most J later.
abbrev pub Released : (jitter nominal t : ℕ) → Type 0
Released jitter nominal t = (nominal ≤ t + jitter) × (t ≤ nominal)

-- The emission keeps every flow's contract. Instants never fall. Each frame is released within the flow's jitter after a nominal
-- instant of its own, and the nominal instant of frame k + count comes at least one period after that of frame k. No order of the
-- nominal instants is asked; nominal f k is that of frame k of flow f, with the jitter added. A slot without a flow emits nothing.
pub record Keeps (p : Plan) (e : Emission) : Type 0 where
  pub absent : (f : ℕ) → present p f ≡ false → e f ≡ []
  pub rising : (f k : ℕ) → suc k < length (e f) → get_or (e f) k 0 ≤ get_or (e f) (suc k) 0
  pub nominal : ℕ → ℕ → ℕ
  pub released : (f k : ℕ) → k < length (e f) → Released (jitter_of p f) (nominal f k) (get_or (e f) k 0)
  pub spaced : (f k : ℕ) → k + count_of p f < length (e f) → nominal f k + period_of p f ≤ nominal f (k + count_of p f)

-- The same contract where no frame is released late: frame k + count itself comes at least one period after frame k.
pub record KeepsNominal (p : Plan) (e : Emission) : Type 0 where
  pub absent : (f : ℕ) → present p f ≡ false → e f ≡ []
  pub rising : (f k : ℕ) → suc k < length (e f) → get_or (e f) k 0 ≤ get_or (e f) (suc k) 0
  pub spaced : (f k : ℕ) → k + count_of p f < length (e f) → get_or (e f) k 0 + period_of p f ≤ get_or (e f) (k + count_of p f) 0

-- the nominal instants never fall, which the contract does not ask
abbrev pub NominalsInOrder : {p : Plan} {e : Emission} → Keeps p e → Type 0
NominalsInOrder {p} {e} keeps = (f k : ℕ) → suc k < length (e f) → keeps.nominal f k ≤ keeps.nominal f (suc k)
