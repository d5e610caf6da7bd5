use mathlib.Core.Path.{◌≡◌, sym, ap, subst, ◌∙◌}
use Prim.Native.Nat.{ℕ, ◌-◌}
use native.Mathlib.Omega.{arith}
use Rattle.std.proofs.Common.{max}
use Rattle.span_lists.specs.laws.Pieces.{Downward, need_within, downward_next, downward_ends}
use Rattle.tables.specs.Lent.{plan_lent}
use Rattle.questions.proofs.downward.refused_below.Goals as goal

pub returns-then-below-most : goal.returns-then-below-most
returns-then-below-most c =
    let p = plan_lent c.args.held.lent in
    let most : c.max-most.result ≡ max c.args.low (need_within p c.args.low c.loop-below.below) = omega (arith, c.max-most.ensures, c.need_within-needed.ensures) in
    let v = c.loop-below.invariant.0 in
    record {
      from = v.from;
      upto = v.upto;
      run = v.run;
      refused = downward_ends p c.args.held.valid v (omega (arith, most, c.if-below-most.true));
    }

pub loop-below-preserved : goal.loop-below-preserved
loop-below-preserved c =
    let p = plan_lent c.args.held.lent in
    let most : c.max-most.result ≡ max c.args.low (need_within p c.args.low c.loop-below.below) = omega (arith, c.max-most.ensures, c.need_within-needed.ensures) in (
      subst (Downward p c.args.low c.args.high) (ap (λ (m : ℕ). m - 1) (sym most))
          (downward_next p c.args.held.valid c.loop-below.invariant.0 (omega (arith, most, c.if-below-most.false))),
      c.need_within-needed.auto.out ∙ c.loop-below.invariant.1,
    )
