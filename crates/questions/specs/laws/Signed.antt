-- A difference of two unsigned numbers as a signed number of 64 bits.
use Rattle.std.specs.Prelude.{◌≡◌, refl, Bool, true, false, cond, ℕ, zero, suc, ◌-◌, ◌^◌, ◌<◌, ℤ, pos, negsuc, ◌-ℤ◌, ltb}
use Rattle.std.proofs.Common.{ap₂, ◌∙◌, zero-le, add-zero, arith, le-ltb, SFits, to_z, of_z}
use Rattle.std.proofs.Math.Nat.{sub-zero}
use Rattle.std.proofs.Math.IntN.{sub_ℕ}
use Rattle.std.specs.Int.Signed.{mag}
use Rattle.std.specs.Int.{w64}
use Rattle.std.proofs.lemmas.Int.{to_z_pos, to_z-of_z}

pos_sub : (a b : ℕ) → pos a -ℤ pos b ≡ sub_ℕ a b
pos_sub a zero = rw (le-ltb a 0 zero-le, add-zero a, sub-zero a)
pos_sub a (suc b) = refl

-- it fits where both numbers do
mag_sub : (a b : ℕ) → a < 2 ^ 63 → b < 2 ^ 63 → mag (sub_ℕ a b) < 2 ^ 63
mag_sub a b ha hb = go (ltb a b)
  where
    go : (x : Bool) → mag (cond x (negsuc (b - suc a)) (pos (a - b))) < 2 ^ 63
    go true = omega arith
    go false = omega arith

module _ (a b : ℕ) (ha : a < 2 ^ 63) (hb : b < 2 ^ 63) where
  signed_sub : to_z w64 a -ℤ to_z w64 b ≡ sub_ℕ a b
  signed_sub = ap₂ (λ (x y : ℤ). x -ℤ y) (to_z_pos w64 a ha) (to_z_pos w64 b hb) ∙ pos_sub a b

  pub sub_fits : SFits w64 (to_z w64 a -ℤ to_z w64 b)
  sub_fits = record { sfits = rw signed_sub (mag_sub a b ha hb) }

  pub sub_is : to_z w64 (of_z w64 (to_z w64 a -ℤ to_z w64 b)) ≡ sub_ℕ a b
  sub_is = to_z-of_z w64 (to_z w64 a -ℤ to_z w64 b) sub_fits ∙ signed_sub
