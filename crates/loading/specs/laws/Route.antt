-- The bytes of a field's route, as a part of the plan.
use Rattle.std.specs.Prelude.{ℕ, ◌+◌, ◌-◌, ◌≤◌, ◌≡◌, List, length}
use Rattle.std.proofs.Math.Path.{sym, ap}
use Rattle.std.proofs.Common.{◌∙◌, drop-drop, drop_at, take-add}
use native.Mathlib.Omega.{arith}
use Rattle.std.proofs.Math.ListN.{take, drop, length-drop}
use Rattle.std.proofs.Math.Seq.{length-take-le}
use Rattle.cqf.specs.Form.{Form}
use Rattle.plan.specs.Bytes.{head_size, size_at, value_at}
use Rattle.plan.specs.Layout.{numbers_size}
use Rattle.plan.specs.Field.{Field, field, field_at, route_ports, route_in}
use Rattle.plan.specs.laws.Whole.{whole_fits}
use Rattle.plan_reading.specs.Reading.{route_at}
use Rattle.plan_reading.specs.laws.fields.Passes.{field_is_whole, field_passes}

-- a field that ends within the plan
module _ (s : List ℕ) (at : ℕ) (fits : at + head_size + size_at s at ≤ length s) where
  abbrev behind_head : List ℕ
  behind_head = drop (at + head_size) s

  value_length : length (value_at s at) ≡ size_at s at
  unfolding value_at
  value_length = length-take-le (size_at s at) behind_head (simp length-drop (omega arith))

  -- its value behind the first k bytes
  value_part
      : (k : ℕ)
      → k ≤ size_at s at
      → take (at + head_size + size_at s at - (at + head_size + k)) (drop (at + head_size + k) s) ≡ drop k (value_at s at)
  unfolding value_at
  value_part k short =
      let m = size_at s at - k in
      let rest : at + head_size + size_at s at - (at + head_size + k) ≡ m = omega arith in
      let all : k + m ≡ size_at s at = omega arith in
      ap (λ (n : ℕ). take n (drop (at + head_size + k) s)) rest
      ∙ ap (take m) (sym (drop-drop k (at + head_size) s))
      ∙ sym (drop_at (take k behind_head) (take m (drop k behind_head)) k (length-take-le k behind_head (simp length-drop (omega arith))))
      ∙ ap (drop k) (sym (take-add k m behind_head))
      ∙ ap (λ (n : ℕ). drop k (take n behind_head)) all

-- the route of a field that was read stands behind its other numbers, up to the next offset
module _ (form : Form) (s : List ℕ) (at : ℕ) (x : Field) (next : ℕ) (stands : field_at form s at ≡ field x next) where
  fits : at + head_size + size_at s at ≤ length s
  fits = whole_fits s at (field_is_whole form s at x next stands)

  pub route_starts : at + head_size + numbers_size x.kind ≤ next
  route_starts =
      let f = field_passes form s at x next stands in
      omega (arith, f.follows, f.passes.size, value_length s at fits)

  pub route_part
      : route_ports (take (next - (at + head_size + numbers_size x.kind)) (drop (at + head_size + numbers_size x.kind) s))
      ≡ route_at x.kind s at
  unfolding route_in
  route_part =
      let f = field_passes form s at x next stands in
      let k = numbers_size x.kind in
      rw f.follows (ap route_ports (value_part s at fits k (omega (arith, f.follows, route_starts))))
