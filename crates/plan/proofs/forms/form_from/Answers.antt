-- `plan::forms::form_from` meets its contract.
use mathlib.Core.Path.{◌≡◌, refl}
use Prim.Native.Nat.{ℕ, zero, suc}
use Rattle.cqf.specs.Form.{newer, form_from}

other : (n : ℕ) → (n ≡ 0 → ⊥) → newer ≡ form_from n
other zero some = absurd (some refl)
other (suc n) some = refl
