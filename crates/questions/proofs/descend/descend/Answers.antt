use mathlib.Core.Path.{◌≡◌, sym, ◌∙◌}
use native.Mathlib.Omega.{arith}
use Rattle.std.proofs.Common.{max, add-one}
use Rattle.cqf.specs.Need.{largest_need}
use Rattle.tables.specs.Lent.{plan_lent}
use Rattle.questions.specs.laws.Descent.{descent_ends, descent_down}
use Rattle.questions.specs.laws.Scratch.{Filled, filled_by, filled_length, filled_most, filled-served, filled-largest}
use Rattle.questions.proofs.descend.descend.Goals as goal

pub neediest-worst-requires-clause-by_index : goal.neediest-worst-requires-clause-by_index
neediest-worst-requires-clause-by_index c =
    let full = filled_by c.args.held.valid (omega (arith, c.loop-below.invariant.1.within)) c.demands.ensures in
    λ q l. (filled_most full q l, filled-served full q l)

pub loop-below-preserved : goal.loop-below-preserved
loop-below-preserved c =
    let p = plan_lent c.args.held.lent in
    let full : Filled p c.demands.new.out c.loop-below.below = filled_by c.args.held.valid (omega (arith, c.loop-below.invariant.1.within)) c.demands.ensures in
    let most : c.max-most.result ≡ max 1 (largest_need p c.loop-below.below) = omega (arith, c.max-most.ensures, filled-largest full c.neediest-worst.ensures.most) in
    (filled_length full, descent_down full c.loop-below.invariant.1 most (omega (arith, c.if-below-most.false)))

pub returns-then-found-limit : goal.returns-then-found-limit
returns-then-found-limit c =
    let p = plan_lent c.args.held.lent in
    let full : Filled p c.demands.new.out c.loop-below.below = filled_by c.args.held.valid (omega (arith, c.loop-below.invariant.1.within)) c.demands.ensures in
    let most : c.max-most.result ≡ max 1 (largest_need p c.loop-below.below) = omega (arith, c.max-most.ensures, filled-largest full c.neediest-worst.ensures.most) in
    record {
      is = add-one _ ∙ sym (descent_ends full c.loop-below.invariant.1 most c.if-below-most.true);
      demands = λ l. c.demands-then-found-limit.ensures;
    }

pub returns-else-found-limit : goal.returns-else-found-limit
returns-else-found-limit c =
    let p = plan_lent c.args.held.lent in
    let full : Filled p c.demands.new.out c.loop-below.below = filled_by c.args.held.valid (omega (arith, c.loop-below.invariant.1.within)) c.demands.ensures in
    let most : c.max-most.result ≡ max 1 (largest_need p c.loop-below.below) = omega (arith, c.max-most.ensures, filled-largest full c.neediest-worst.ensures.most) in
    record {
      is = add-one _ ∙ sym (descent_ends full c.loop-below.invariant.1 most c.if-below-most.true);
      demands = λ l. absurd (omega (arith, l, c.if-found-limit.false));
    }
