-- `store_route` meets its contract: each port is in range.
use Rattle.std.proofs.Common.{ℕ, ◌+◌, List, arith, get_or, set, ap, sym, ◌∙◌}
use Rattle.std.proofs.Math.Seq.{take_all}
use Rattle.std.proofs.lemmas.List.Edits.{sets}
use Rattle.cqf.specs.Limits.{port_slots}
use Rattle.plan_reading.specs.laws.fields.Within.{within_high}
use Rattle.plan_text.specs.Line.{port_test}
use Rattle.plan_text.specs.laws.Ranges.{none-failing}
use Rattle.plan_text.specs.laws.Copy.{sets_take}
use Rattle.plan_text.proofs.store.store_route.Goals as goal

pub overflow_cast-routes : goal.overflow_cast-routes
overflow_cast-routes c =
    let i = c.loop-i.i in
    let ok = none-failing port_test c.args.route.now 0 (omega (arith, c.requires.1)) i (omega arith) in
    record { fits = omega (arith, within_high 1 port_slots (get_or c.args.route.now i 0) ok) }

pub loop-i-preserved : goal.loop-i-preserved
loop-i-preserved c =
    let l = c.loop-i in
    let a = c.args in
    ap (λ (r : List ℕ). set r (a.base + l.i) (get_or a.route.now l.i 0)) l.invariant
    ∙ sym (sets_take a.routes.now a.base a.route.now l.i (omega arith))

pub returns : goal.returns
returns c =
    let l = c.loop-i in
    let a = c.args in
    l.invariant ∙ ap (sets a.routes.now a.base) (take_all l.i a.route.now (omega arith))
