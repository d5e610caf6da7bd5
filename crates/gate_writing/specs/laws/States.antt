-- Laws of the bits of two queues: what is left of the eight, and what is set in it, is a number of one byte.
use Rattle.std.specs.Prelude.{ℕ, suc, ◌+◌, ◌≤◌, ◌≡◌, refl, Bool, true, false, ◌||◌, leb, eqb}
use Rattle.std.proofs.Common.{le_antisymm, arith, leb-true, eqb-true}
use Rattle.cqf.specs.Bounded.{all_to}
use Rattle.cqf.proofs.laws.Bounded.{all_to-at}
use Rattle.gate_lists.specs.GateList.{bit, both_closed}
use Rattle.gate_writing.specs.Gates.{last_queue, queues_ok}
use Rattle.gate_writing.specs.laws.Gates.{even_below, odd_below, queues-apart}

-- a queue that is none of those before the last is the last
past : (k : ℕ) {q : ℕ} → k ≤ q → (q ≡ k → ⊥) → suc k ≤ q
past k less ne = omega arith

from_0 : (q : ℕ) → (q ≡ 0 → ⊥) → 1 ≤ q
from_0 q ne = omega arith

pub last_queue_lem
    : {q : ℕ}
    → q ≤ last_queue
    → (q ≡ 0 → ⊥)
    → (q ≡ 1 → ⊥)
    → (q ≡ 2 → ⊥)
    → (q ≡ 3 → ⊥)
    → (q ≡ 4 → ⊥)
    → (q ≡ 5 → ⊥)
    → (q ≡ 6 → ⊥)
    → q ≡ last_queue
last_queue_lem {q} most a b c d e f g = above (past 6 (past 5 (past 4 (past 3 (past 2 (past 1 (from_0 q a) b) c) d) e) f) g)
  where
    above : last_queue ≤ q → q ≡ last_queue
    above h = le_antisymm most h

all_apart : all_to 8 (λ even. all_to 8 (λ odd. eqb even odd || leb (bit even + bit odd) 255)) ≡ true
unfolding all_to bit
all_apart = refl

-- the bits of two different queues
module _ (even odd : ℕ) (ok : queues_ok even odd ≡ true) where
  pub bits_fit : bit even + bit odd ≤ 255
  bits_fit =
      go (eqb even odd) refl
      (all_to-at 8 (λ o. eqb even o || leb (bit even + bit o) 255)
      (all_to-at 8 (λ e. all_to 8 (λ o. eqb e o || leb (bit e + bit o) 255)) all_apart even (even_below even odd ok))
      odd (odd_below even odd ok))
    where
      go : (b : Bool) → eqb even odd ≡ b → b || leb (bit even + bit odd) 255 ≡ true → bit even + bit odd ≤ 255
      go true e h = absurd (queues-apart even odd ok (eqb-true even odd e))
      go false e h = leb-true (bit even + bit odd) 255 h

  -- one of the two set where both are not
  pub even_fits : both_closed even odd + bit even ≤ 255
  unfolding both_closed
  even_fits = omega (arith, bits_fit)

  pub odd_fits : both_closed even odd + bit odd ≤ 255
  unfolding both_closed
  odd_fits = omega (arith, bits_fit)
