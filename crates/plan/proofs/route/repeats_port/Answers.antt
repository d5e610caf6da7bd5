-- `repeats_port` meets its contract.
use mathlib.Core.Path.{◌∙◌}
use Rattle.plan.specs.Field.{repeats}
use Rattle.plan.proofs.route.repeats_port.Goals as goal

pub returns : goal.returns
unfolding repeats
returns c = c.route_repeats.ensures ∙ rw (c.route_bytes.ensures, c.flow_start.ensures)
