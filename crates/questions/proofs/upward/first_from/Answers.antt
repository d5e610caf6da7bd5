use mathlib.Core.Path.{◌≡◌, sym, subst, ◌∙◌}
use Prim.Native.Nat.{suc, ◌<◌}
use native.Mathlib.Omega.{arith}
use Rattle.std.proofs.Common.{min}
use Rattle.span_lists.specs.laws.Pieces.{Upward, need_within, upward_next, upward_ends}
use Rattle.tables.specs.Lent.{plan_lent}
use Rattle.questions.proofs.upward.first_from.Goals as goal

pub returns-then-most-t : goal.returns-then-most-t
returns-then-most-t c =
    sym (upward_ends (plan_lent c.args.held.lent) c.args.held.valid c.loop-t.invariant.0 (omega (arith, c.if-most-t.true, c.need_within-most.ensures)))

pub loop-t-preserved : goal.loop-t-preserved
loop-t-preserved c =
    let p = plan_lent c.args.held.lent in
    let next : c.min-t.result ≡ min (need_within p 1 c.loop-t.t) (suc p.top) = omega (arith, c.min-t.ensures, c.need_within-most.ensures) in
    let less : c.loop-t.t < need_within p 1 c.loop-t.t = omega (arith, c.if-most-t.false, c.need_within-most.ensures) in
    (subst (Upward p c.args.start) (sym next) (upward_next p c.args.held.valid c.loop-t.invariant.0 less), c.need_within-most.auto.out ∙ c.loop-t.invariant.1)
