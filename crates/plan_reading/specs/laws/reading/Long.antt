-- Laws of flows over more ports than the older form allows.
use Rattle.std.specs.Prelude.{ℕ, ◌≡◌, List, false, ltb, length}
use Rattle.std.proofs.Common.{eq-eqb, ne_eqb}
use Rattle.cqf.specs.Form.{older, most_hops_in}
use Rattle.plan.specs.Bytes.{tag_at}
use Rattle.plan.specs.Layout.{Kind, layout}
use Rattle.plan_reading.specs.Reading.{route_at}
use Rattle.plan_reading.specs.Overlong.{overlong}

module _ (s : List ℕ) (at : ℕ) where
  pub long_other : (tag_at s at ≡ (layout Kind.flow2).tag → ⊥) → overlong s at ≡ false
  unfolding overlong
  long_other h = rw (ne_eqb (tag_at s at) (layout Kind.flow2).tag h)

  pub long_flow2 : tag_at s at ≡ (layout Kind.flow2).tag → overlong s at ≡ ltb (most_hops_in older) (length (route_at Kind.flow2 s at))
  unfolding overlong
  long_flow2 h = rw (eq-eqb (tag_at s at) (layout Kind.flow2).tag h)
