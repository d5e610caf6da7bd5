use mathlib.Core.Path.{sym, ◌∙◌}
use native.Mathlib.Omega.{arith}
use borrow.Author.Rules.{rules}
use Rattle.cqf.specs.Bounded.{all_to}
use Rattle.cqf.specs.Limits.{port_slots}
use Rattle.cqf.specs.Plan.{valid_port}
use Rattle.cqf.proofs.laws.Bounds.{all_to-next, all_to_false}
use Rattle.tables.proofs.ports.valid_ports.Goals as goal

pub loop-q-init : goal.loop-q-init
unfolding all_to
loop-q-init c = search rules

pub returns-then-not-valid_port : goal.returns-then-not-valid_port
unfolding valid_port
returns-then-not-valid_port c =
    sym (all_to_false port_slots _ c.loop-q.q (omega arith) (sym c.valid_port.ensures ∙ c.if-not-valid_port.true))

pub loop-q-preserved : goal.loop-q-preserved
unfolding valid_port
loop-q-preserved c = all_to-next c.loop-q.q _ c.loop-q.invariant (sym c.valid_port.ensures ∙ c.if-not-valid_port.false)
