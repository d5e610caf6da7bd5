-- The highest-numbered port that some flow crosses, as it is found from above.
use Rattle.std.specs.Prelude.{◌≡◌, Bool}
use Rattle.std.proofs.Math.Path.{refl}
use Rattle.std.proofs.Common.{sym, ◌∙◌}
use Rattle.std.proofs.Math.Bool.{true, false, cond}
use Rattle.std.proofs.lemmas.Bool.{false≢true}
use Prim.Native.Nat.{ℕ, suc, ◌-◌, ◌≤◌, ◌<◌}
use Rattle.std.proofs.Math.Nat.{le_antisymm}
use Rattle.std.proofs.Math.Decide.{dec_lt}
use native.Mathlib.Omega.{arith}
use Rattle.cqf.specs.Bounded.{max_to}
use Rattle.cqf.specs.Limits.{port_slots}
use Rattle.cqf.specs.Plan.{Plan}
use Rattle.cqf.specs.Condition.{crossed}
use Rattle.cqf.specs.PortSteps.{highest_crossed}
use Rattle.cqf.proofs.laws.Bounds.{max_to_most, max_to-least}

module _ (p : Plan) where
  number : ℕ → ℕ
  number k = cond (crossed p k) (suc k) 0

  highest_of : highest_crossed p ≡ max_to port_slots number
  unfolding highest_crossed number
  highest_of = refl

  -- the numbers of crossed ports are at most n where no port from slot n on is crossed
  highest_most : (n : ℕ) → ((k : ℕ) → n ≤ k → k < port_slots → crossed p k ≡ false) → highest_crossed p ≤ n
  unfolding number
  highest_most n none = rw highest_of (max_to-least port_slots number n (λ k slot. go k slot (crossed p k) refl))
    where
      go : (k : ℕ) → k < port_slots → (x : Bool) → crossed p k ≡ x → cond x (suc k) 0 ≤ n
      go k slot false e = omega arith
      go k slot true e = below (dec_lt k n)
        where
          below : Dec (k < n) → suc k ≤ n
          below (yes l) = l
          below (no l) = absurd (false≢true (sym (none k (omega arith) slot) ∙ e))

  -- none above q is crossed and q is: it is the port in slot q
  pub highest_is
      : (q : ℕ)
      → q < port_slots
      → crossed p q ≡ true
      → ((k : ℕ) → suc q ≤ k → k < port_slots → crossed p k ≡ false)
      → highest_crossed p ≡ suc q
  unfolding number
  highest_is q slot e none =
      let at : number q ≤ max_to port_slots number = max_to_most port_slots number q slot in
      let here : suc q ≤ max_to port_slots number = rw e at at in
      le_antisymm (highest_most (suc q) none) (rw highest_of here)

  pub highest_none : ((k : ℕ) → 0 ≤ k → k < port_slots → crossed p k ≡ false) → highest_crossed p ≡ 0
  highest_none none = let l = highest_most 0 none in omega arith

  -- its slot is one of the ports'
  pub highest_slot : highest_crossed p - 1 < port_slots
  highest_slot = let most = highest_most port_slots (λ k h l. absurd (omega arith)) in omega arith
