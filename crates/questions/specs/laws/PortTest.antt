-- The test of the ports at a duration, and what it gives.
use Rattle.std.specs.Prelude.{◌≡◌, Bool, true, false, List, ℕ, ◌+◌, ◌<◌}
use Rattle.std.proofs.Common.{sym, ap₂, ◌∙◌, le-leb, arith}
use Rattle.std.proofs.Math.Decide.{ℕ_discrete}
use Rattle.cqf.specs.Limits.{port_slots}
use Rattle.cqf.specs.Plan.{Plan, rate_of, blocking_of, extra_of}
use Rattle.cqf.specs.Port.{window_of, fails_by_of}
use Rattle.cqf.specs.Condition.{fails}
use Rattle.cqf.specs.Need.{largest_need}
use Rattle.cqf.specs.FixedPoint.{settles}
use Rattle.cqf.proofs.laws.Search.{fails-largest, none-largest}
use Rattle.questions.specs.Failing.{fails_in}
use Rattle.questions.specs.laws.Fails.{fails_by}
use Rattle.questions.specs.laws.Scratch.{Filled, filled_bits}

-- the first ports pass, and the next one does too
pub passed_next : {g : ℕ → Bool} {q : ℕ} → ((k : ℕ) → k < q → g k ≡ false) → g q ≡ false → (k : ℕ) → k < q + 1 → g k ≡ false
passed_next {g} {q} before e k l = go (ℕ_discrete k q)
  where
    go : Dec (k ≡ q) → g k ≡ false
    go (yes same) = rw same e
    go (no further) = before k (omega (arith, l))

module _ {p : Plan} {out : List ℕ} {t window : ℕ} (f : Filled p out t) (long : 0 < t) (w : window ≡ window_of p.guard t) where
  -- the test of one port
  pub port_tested : (q : ℕ) → q < port_slots → fails_in p.rates p.blockings p.extras window out q ≡ fails p t q
  port_tested q slot =
      ap₂ (fails_by_of (rate_of p q) (blocking_of p q) (extra_of p q)) w (filled_bits f q slot)
      ∙ sym (fails_by p f.valid t long q)

  -- one that fails needs more
  pub one_fails : (q : ℕ) → q < port_slots → fails_in p.rates p.blockings p.extras window out q ≡ true → t < largest_need p t
  one_fails q slot e = fails-largest p f.valid t q long slot (sym (port_tested q slot) ∙ e)

  -- all of them pass
  module _ (pass : (q : ℕ) → q < port_slots → fails_in p.rates p.blockings p.extras window out q ≡ false) where
    pub none_fails : (q : ℕ) → q < port_slots → fails p t q ≡ false
    none_fails q slot = sym (port_tested q slot) ∙ pass q slot

    -- none needs more than t
    pub none_settles : settles p t ≡ true
    none_settles = le-leb _ _ (none-largest p f.valid t none_fails)
