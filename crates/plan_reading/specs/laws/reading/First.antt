-- Laws of the search for the first field that is sought, field by field.
use Prim.Native.Nat.{ℕ, zero, suc, ◌+◌, ◌≤◌, ◌<◌}
use Rattle.std.specs.Prelude.{◌≡◌, List, Bool, true, false, length}
use Rattle.std.proofs.Math.Path.{refl}
use Rattle.std.proofs.Common.{sym, ◌∙◌, arith}
use Rattle.plan.specs.Bytes.{head_size, size_at, whole_at}
use Rattle.plan_reading.specs.Reading.{first_from}
use Rattle.plan.specs.laws.Whole.{whole_fits}

module _ (sought : List ℕ → ℕ → Bool) (s : List ℕ) (at : ℕ) where
  -- where no whole field stands the search ends
  pub first_cut : (n : ℕ) → whole_at s at ≡ false → first_from sought n s at ≡ length s
  unfolding first_from
  first_cut zero e = refl
  first_cut (suc n) e = rw (e, first_from)

  here_one : (n : ℕ) → whole_at s at ≡ true → sought s at ≡ true → first_from sought (suc n) s at ≡ at
  unfolding first_from
  here_one n e f = rw (e, f, first_from)

  past_one : (n : ℕ) → whole_at s at ≡ true → sought s at ≡ false
      → first_from sought (suc n) s at ≡ first_from sought n s (at + head_size + size_at s at)
  unfolding first_from
  past_one n e f = rw (e, f, first_from)

  -- past the plan's end no field is whole
  first_end : (n : ℕ) → length s ≤ at → first_from sought n s at ≡ length s
  first_end n h = go (whole_at s at) refl
    where
      go : (b : Bool) → whole_at s at ≡ b → first_from sought n s at ≡ length s
      go true e = absurd (omega (arith, whole_fits s at e))
      go false e = first_cut n e

-- any number of fields that is no less than the bytes left gives the same offset
first_enough : (sought : List ℕ → ℕ → Bool) (n m : ℕ) (s : List ℕ) (at : ℕ) → length s ≤ at + n → length s ≤ at + m
    → first_from sought n s at ≡ first_from sought m s at
first_enough sought zero m s at h g = first_end sought s at zero (omega arith) ∙ sym (first_end sought s at m (omega arith))
first_enough sought (suc n) zero s at h g = first_end sought s at (suc n) (omega arith) ∙ sym (first_end sought s at zero (omega arith))
first_enough sought (suc n) (suc m) s at h g =
    go (first_enough sought n m s (at + head_size + size_at s at) (omega arith) (omega arith))
    (whole_at s at) refl (sought s at) refl
  where
    go : first_from sought n s (at + head_size + size_at s at) ≡ first_from sought m s (at + head_size + size_at s at)
        → (b : Bool) → whole_at s at ≡ b → (c : Bool) → sought s at ≡ c
        → first_from sought (suc n) s at ≡ first_from sought (suc m) s at
    go rest false e c f = first_cut sought s at (suc n) e ∙ sym (first_cut sought s at (suc m) e)
    go rest true e true f = here_one sought s at n e f ∙ sym (here_one sought s at m e f)
    go rest true e false f = past_one sought s at n e f ∙ rest ∙ sym (past_one sought s at m e f)

-- one whole field, with the plan's length as the bound throughout
module _ (sought : List ℕ → ℕ → Bool) (s : List ℕ) (at : ℕ) (w : whole_at s at ≡ true) where
  pub first_here : sought s at ≡ true → first_from sought (length s) s at ≡ at
  first_here f =
      first_enough sought (length s) (suc (length s)) s at (omega arith) (omega arith) ∙ here_one sought s at (length s) w f

  pub first_past : sought s at ≡ false → first_from sought (length s) s at ≡ first_from sought (length s) s (at + head_size + size_at s at)
  first_past f =
      first_enough sought (length s) (suc (length s)) s at (omega arith) (omega arith) ∙ past_one sought s at (length s) w f

-- from this offset on no field is sought
abbrev pub NoneFrom : (List ℕ → ℕ → Bool) → List ℕ → ℕ → Type 0
NoneFrom sought s at = length s ≤ first_from sought (length s) s at

-- neither the field at the front, nor one after it
pub record NotFront (sought : List ℕ → ℕ → Bool) (s : List ℕ) (at : ℕ) : Type 0 where
  pub front : sought s at ≡ false
  pub rest : NoneFrom sought s (at + head_size + size_at s at)

pub none_front
    : (sought : List ℕ → ℕ → Bool) (s : List ℕ) (at : ℕ)
    → at < length s
    → whole_at s at ≡ true
    → NoneFrom sought s at
    → NotFront sought s at
none_front sought s at less w h = go (sought s at) refl
  where
    go : (b : Bool) → sought s at ≡ b → NotFront sought s at
    go true q = absurd (omega (arith, first_here sought s at w q))
    go false q = record { front = q; rest = rw (first_past sought s at w q) at h }
