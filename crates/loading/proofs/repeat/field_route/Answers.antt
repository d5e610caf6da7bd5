-- `field_route` meets its contract: a field that was read ends within the plan, its route at its end.
use native.Mathlib.Omega.{arith}
use Rattle.plan_reading.specs.laws.fields.Found.{found_within}
use Rattle.loading.specs.laws.Route.{route_starts, route_part}
use Rattle.loading.proofs.repeat.field_route.Goals as goal

pub overflow_add-start : goal.overflow_add-start
overflow_add-start c = omega (arith, route_starts _ _ _ _ _ c.requires.1, found_within _ _ _ _ _ c.requires.1)

pub overflow_add-start-2 : goal.overflow_add-start-2
overflow_add-start-2 c = omega (arith, c.route_start.ensures, route_starts _ _ _ _ _ c.requires.1, found_within _ _ _ _ _ c.requires.1)

pub slice_bounds-result-count : goal.slice_bounds-result-count
slice_bounds-result-count c = omega (arith, c.route_start.ensures, route_starts _ _ _ _ _ c.requires.1, found_within _ _ _ _ _ c.requires.1)

pub slice_bounds-result-start : goal.slice_bounds-result-start
slice_bounds-result-start c = omega (arith, c.route_start.ensures, route_starts _ _ _ _ _ c.requires.1, found_within _ _ _ _ _ c.requires.1)

pub slice_bounds-result-end : goal.slice_bounds-result-end
slice_bounds-result-end c = omega (arith, c.route_start.ensures, route_starts _ _ _ _ _ c.requires.1, found_within _ _ _ _ _ c.requires.1)

pub returns : goal.returns
returns c = rw c.route_start.ensures (route_part _ _ _ _ _ c.requires.1)
