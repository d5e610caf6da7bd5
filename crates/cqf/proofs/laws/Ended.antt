-- The outcome of an iteration that has ended: the best duration where it is up to top, or none.
use Rattle.std.specs.Prelude.{◌≡◌, refl, Bool, true, false, cond, ℕ, suc, ◌≤◌, ◌<◌, leb}
use Rattle.std.proofs.Common.{ap, le_refl, arith, le-leb}
use Rattle.std.proofs.Math.Decide.{dec_le}
use Rattle.std.proofs.lemmas.Bool.{lt-leb}
use Rattle.cqf.specs.Plan.{Plan}
use Rattle.cqf.specs.FixedPoint.{found, none, unfinished, after_steps, ended}

module _ (p : Plan) where
  pub ended-within : {best t : ℕ} (n : ℕ) → best ≡ t → t ≤ p.top → ended p best n ≡ found t n
  ended-within n e l = rw (e, le-leb _ _ l)

  pub ended_above : {best : ℕ} (n : ℕ) → best ≡ suc p.top → ended p best n ≡ none n
  ended_above n e = rw (e, lt-leb (suc p.top) p.top (le_refl _))

  pub after-ended : (t n : ℕ) → after_steps 1 (ended p t n) ≡ ended p t (suc n)
  after-ended t n = go (leb t p.top)
    where
      go : (x : Bool) → after_steps 1 (cond x (found t n) (none n)) ≡ cond x (found t (suc n)) (none (suc n))
      go true = ap (found t) (omega arith)
      go false = ap none (omega arith)

  -- by what it is
  module _ (best n : ℕ) where
    ended-over : p.top < best → ended p best n ≡ none n
    ended-over l = rw (lt-leb _ _ l)

    pub ended-found : {t k : ℕ} → ended p best n ≡ found t k → (best ≡ t) × (n ≡ k) × (best ≤ p.top)
    ended-found {t} {k} e = go (dec_le best p.top)
      where
        go : Dec (best ≤ p.top) → (best ≡ t) × (n ≡ k) × (best ≤ p.top)
        go (yes l) = let d = ended-within {best = best} n refl l in (cc, cc, l)
        go (no l) = let d = ended-over (omega arith) in absurd (let z : ◌≡◌ {A = ℕ} 0 1 = cc in omega arith)

    pub ended-none : {k : ℕ} → ended p best n ≡ none k → (n ≡ k) × (p.top < best)
    ended-none {k} e = go (dec_le best p.top)
      where
        go : Dec (best ≤ p.top) → (n ≡ k) × (p.top < best)
        go (yes l) = let d = ended-within {best = best} n refl l in absurd (let z : ◌≡◌ {A = ℕ} 0 1 = cc in omega arith)
        go (no l) = let d = ended-over (omega arith) in (cc, omega arith)

    pub ended_finished : {t : ℕ} → ended p best n ≡ unfinished t → ⊥
    ended_finished e = go (dec_le best p.top)
      where
        go : Dec (best ≤ p.top) → ⊥
        go (yes l) = let d = ended-within {best = best} n refl l in absurd (let z : ◌≡◌ {A = ℕ} 0 1 = cc in omega arith)
        go (no l) = let d = ended-over (omega arith) in absurd (let z : ◌≡◌ {A = ℕ} 0 1 = cc in omega arith)
