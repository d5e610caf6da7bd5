use mathlib.Core.Path.{sym, ◌∙◌}
use Prim.Native.Nat.{◌-◌}
use native.Mathlib.Omega.{arith}
use Rattle.cqf.proofs.laws.HighestCrossed.{highest_is, highest_none}
use Rattle.tables.specs.Lent.{plan_lent}
use Rattle.questions.proofs.highest.highest_slot.Goals as goal

pub returns-then-is_crossed : goal.returns-then-is_crossed
returns-then-is_crossed c =
    let q = c.loop-q.q - 1 in
    let here = highest_is (plan_lent c.args.held.lent) q (omega arith) (sym c.is_crossed.ensures ∙ c.if-is_crossed.true) (λ k h m. c.loop-q.invariant k (omega (arith, h)) m) in
    omega (arith, here)

pub returns : goal.returns
returns c =
    let none = highest_none (plan_lent c.args.held.lent) (λ k _ m. c.loop-q.invariant k (omega arith) m) in
    omega (arith, none)
