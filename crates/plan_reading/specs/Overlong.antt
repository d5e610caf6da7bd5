-- What the older form has no field for.
use Rattle.std.specs.Prelude.{ℕ, List, Bool, ◌&&◌, ltb, eqb, length}
use Rattle.cqf.specs.Form.{older, most_hops_in}
use Rattle.plan.specs.Bytes.{tag_at, value_at}
use Rattle.plan.specs.Layout.{Kind, layout}
use Rattle.plan.specs.Field.{route_in}
use Rattle.plan_reading.specs.Reading.{route_at}

-- a flow of the newer form over more ports than a flow of the older one may have
unfoldable pub overlong : List ℕ → ℕ → Bool
unfolding value_at route_in
overlong s at = eqb (tag_at s at) (layout Kind.flow2).tag && ltb (most_hops_in older) (length (route_at Kind.flow2 s at))
