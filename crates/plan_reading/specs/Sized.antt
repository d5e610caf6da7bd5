-- Tables of the sizes of document 01: 64 ports, 256 flows. Those of every planner are, by the types of its arrays.
use Rattle.std.specs.Prelude.{◌≡◌, ◌*◌, length}
use Rattle.cqf.specs.Limits.{port_slots, flow_slots, route_stride}
use Rattle.cqf.specs.Plan.{Plan}

pub record Sized (p : Plan) : Type 0 where
  pub rates : length p.rates ≡ port_slots
  pub blockings : length p.blockings ≡ port_slots
  pub extras : length p.extras ≡ port_slots
  pub periods : length p.periods ≡ flow_slots
  pub counts : length p.counts ≡ flow_slots
  pub lengths : length p.lengths ≡ flow_slots
  pub jitters : length p.jitters ≡ flow_slots
  pub hops : length p.hops ≡ flow_slots
  pub routes : length p.routes ≡ flow_slots * route_stride
