-- Laws of the fields that are saved of a slot.
use Rattle.std.specs.Prelude.{ℕ, zero, suc, ◌+◌, ◌≤◌, ◌≡◌, refl, Bool, true, false, ltb, length, get_or, take, drop}
use Rattle.std.proofs.Common.{sym, ap, ◌∙◌, add-one, arith, lt-ltb, le-ltb, drop-cons}
use mathlib.Core.List.{List, ◌∷◌, append-nil}
use Rattle.cqf.specs.Bounded.{sublist}
use Rattle.cqf.specs.Limits.{max_hops}
use Rattle.plan.specs.Layout.{Kind}
use Rattle.plan_reading.specs.Strict.{Entry}
use Rattle.plan_reading.specs.FieldBytes.{bytes_of, row_bytes}
use Rattle.plan_reading.specs.Saved.{field_when}
use Rattle.writing.specs.Laid.{laid}
use Rattle.writing.specs.Fields.{routed_bytes, allowed_bytes}
use Rattle.writing.specs.laws.Laid.{laid_none}
use Rattle.writing.specs.laws.Fields.{route_named}

-- a field that stands where a test holds, and the buffer with it
module _ (x : Entry) (buffer : List ℕ) where
  pub test_none : (b : Bool) → b ≡ false → buffer ≡ laid (row_bytes (field_when b x)) buffer
  unfolding row_bytes
  test_none b fails = rw fails (sym (laid_none buffer))

  pub test_one : (b : Bool) {exit : List ℕ} → b ≡ true → exit ≡ laid (bytes_of x) buffer → exit ≡ laid (row_bytes (field_when b x)) buffer
  unfolding row_bytes
  test_one b holds written = rw (holds, append-nil (bytes_of x)) written

  -- where a number is not 0
  pub slot_none : (n : ℕ) → n ≡ 0 → buffer ≡ laid (row_bytes (field_when (ltb 0 n) x)) buffer
  slot_none n z = test_none (ltb 0 n) (le-ltb 0 n (omega arith))

  pub slot_one
      : (n : ℕ) {exit : List ℕ}
      → (n ≡ 0 → ⊥)
      → exit ≡ laid (bytes_of x) buffer
      → exit ≡ laid (row_bytes (field_when (ltb 0 n) x)) buffer
  slot_one n some written = test_one (ltb 0 n) (lt-ltb 0 n (omega arith)) written

-- the ports of a route, as the part of the table that they are
pub sublist-part : (l : List ℕ) (base h : ℕ) → base + h ≤ length l → take h (drop base l) ≡ sublist l base h
unfolding sublist
sublist-part l base zero fits = refl
sublist-part l base (suc h) fits =
    ap (take (suc h)) (drop-cons l base 0 (omega arith))
    ∙ ap (λ (r : List ℕ). get_or l base 0 ∷ r) (sublist-part l (suc base) h (omega arith))

-- a flow over a route that is not too long is the field of its slot
pub flow_part
    : (kind : Kind) (n : ℕ) (ns r : List ℕ)
    → length r ≤ max_hops
    → allowed_bytes kind ((n + 1) ∷ ns) r ≡ routed_bytes kind (suc n ∷ ns) r
flow_part kind n ns r few = rw (route_named kind ((n + 1) ∷ ns) r few, add-one n)
