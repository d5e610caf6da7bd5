-- Laws of a field that was read: its numbers are in range, its route fits it, and the next offset is behind it within the plan.
use Rattle.std.specs.Prelude.{ℕ, ◌+◌, ◌≤◌, ◌≡◌, List, length}
use Rattle.std.proofs.Common.{arith}
use Rattle.plan.specs.Bytes.{head_size}
use Rattle.cqf.specs.Form.{Form}
use Rattle.plan.specs.Field.{Field, field, field_at}
use Rattle.plan_reading.specs.Ranges.{NumbersOk, RouteFits}
use Rattle.plan_reading.specs.Reading.{route_at}
use Rattle.plan_reading.specs.laws.fields.Passes.{field_is_whole, field_passes}
use Rattle.plan.specs.laws.Whole.{whole_fits}

module _ (form : Form) (s : List ℕ) (at : ℕ) (x : Field) (m : ℕ) (e : field_at form s at ≡ field x m) where
  pub found-numbers : NumbersOk form x
  found-numbers = (field_passes form s at x m e).passes.ok

  pub found_route : RouteFits x (route_at x.kind s at)
  found_route = (field_passes form s at x m e).passes.route

  -- the next offset is behind this one and within the plan
  pub found_forward : at + head_size ≤ m
  found_forward = omega (arith, (field_passes form s at x m e).follows)

  pub found_within : m ≤ length s
  found_within = omega (arith, (field_passes form s at x m e).follows, whole_fits s at (field_is_whole form s at x m e))
