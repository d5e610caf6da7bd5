-- Where no flow has jitter, the contract is the one in which frame k + count itself comes at least one period after frame k.
use Rattle.std.specs.Prelude.{◌≡◌, ◌↔◌, ℕ, ◌+◌, ◌≤◌, ◌<◌, length, get_or}
use Rattle.std.proofs.Common.{arith}
use Rattle.cqf.specs.Plan.{Plan, period_of, count_of, jitter_of}
use Rattle.cqf.specs.Emission.{Emission, Keeps, KeepsNominal}

module _ (p : Plan) (none : (f : ℕ) → jitter_of p f ≡ 0) (e : Emission) where
  spaced : Keeps p e → (f k : ℕ) → k + count_of p f < length (e f) → get_or (e f) k 0 + period_of p f ≤ get_or (e f) (k + count_of p f) 0
  spaced keeps f k l =
      let from = keeps.released f k (omega arith) in
      let upto = keeps.released f (k + count_of p f) l in
      omega (arith, none f, keeps.spaced f k l, from.0, from.1, upto.0, upto.1)

  pub no_jitter : Keeps p e ↔ KeepsNominal p e
  no_jitter = (
    λ keeps. record { absent = keeps.absent; rising = keeps.rising; spaced = spaced keeps },
    λ keeps. record {
      absent = keeps.absent;
      rising = keeps.rising;
      nominal = λ f k. get_or (e f) k 0;
      released = λ f k _. (omega arith, omega arith);
      spaced = keeps.spaced;
    },
  )
