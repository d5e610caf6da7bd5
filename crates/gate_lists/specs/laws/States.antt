-- The gate states of two queues, bit by bit.
use Rattle.std.specs.Prelude.{ℕ, ◌<◌, ◌≡◌, refl, Bool, true, false, not, ◌&&◌, ◌||◌, eqb}
use Rattle.std.proofs.Common.{sym, eqb-true}
use Rattle.std.proofs.Math.Bool.{and-eq-true_iff}
use Rattle.cqf.specs.Bounded.{all_to}
use Rattle.cqf.proofs.laws.Bounded.{all_to-at}
use Rattle.gate_lists.specs.GateList.{queues, bit, both_closed, one_open}
use Rattle.gate_lists.specs.Playing.{is_open}

-- two truth values are the same
abbrev alike : Bool → Bool → Bool
alike true b = b
alike false b = not b

alike_true : (a b : Bool) → alike a b ≡ true → a ≡ b
alike_true true true e = refl
alike_true true false e = sym e
alike_true false true e = e
alike_true false false e = refl

-- of two different queues: whether queue q is open where both are closed, and where one of the two is open
abbrev open_as : (even odd q : ℕ) → Bool
open_as even odd q =
    alike (is_open (both_closed even odd) q) (not (eqb q even || eqb q odd))
    && (alike (is_open (one_open even odd even) q) (not (eqb q odd)) && alike (is_open (one_open even odd odd) q) (not (eqb q even)))

all_open : all_to 8 (λ even. all_to 8 (λ odd. eqb even odd || all_to 8 (open_as even odd))) ≡ true
unfolding all_to is_open one_open both_closed bit
all_open = refl

module _ (even odd : ℕ) (below : even < queues) (under : odd < queues) (apart : even ≡ odd → ⊥) where
  each : all_to 8 (open_as even odd) ≡ true
  each = go (eqb even odd) refl (all_to-at 8 _ (all_to-at 8 _ all_open even below) odd under)
    where
      go : (b : Bool) → eqb even odd ≡ b → b || all_to 8 (open_as even odd) ≡ true → all_to 8 (open_as even odd) ≡ true
      go true e h = absurd (apart (eqb-true even odd e))
      go false e h = h

  module _ (q : ℕ) (less : q < queues) where
    three : open_as even odd q ≡ true
    three = all_to-at 8 _ each q less

    pub both_closed_lem : is_open (both_closed even odd) q ≡ not (eqb q even || eqb q odd)
    both_closed_lem = alike_true _ _ ((and-eq-true_iff (alike (is_open (both_closed even odd) q) (not (eqb q even || eqb q odd))) _).0 three).0

    rest : alike (is_open (one_open even odd even) q) (not (eqb q odd)) && alike (is_open (one_open even odd odd) q) (not (eqb q even)) ≡ true
    rest = ((and-eq-true_iff (alike (is_open (both_closed even odd) q) (not (eqb q even || eqb q odd))) _).0 three).1

    pub even_only : is_open (one_open even odd even) q ≡ not (eqb q odd)
    even_only = alike_true _ _ ((and-eq-true_iff (alike (is_open (one_open even odd even) q) (not (eqb q odd))) _).0 rest).0

    pub odd_only : is_open (one_open even odd odd) q ≡ not (eqb q even)
    odd_only = alike_true _ _ ((and-eq-true_iff (alike (is_open (one_open even odd even) q) (not (eqb q odd))) _).0 rest).1
