-- `questions::reprice::reprice_route` meets its contract. The loop's invariant: the ports passed have their slacks.
use mathlib.Core.Path.{◌≡◌}
use Prim.Native.Nat.{suc}
use Rattle.cqf.specs.Bounded.{elem, sublist}
use Rattle.cqf.specs.Condition.{slack}
use Rattle.cqf.specs.Reprice.{with_length, replaced}
use Rattle.tables.specs.Lent.{plan_lent}
use Rattle.questions.proofs.reprice.reprice_route.Given as goal

abbrev pub invariant-loop-i : goal.invariant-loop-i
invariant-loop-i l =
    l.out
    ≡ replaced
    (λ q. elem (suc q) (sublist l.lent.routes.now l.base l.i))
    (λ q. slack (with_length (plan_lent l.lent) l.f l.bytes) q l.duration)
    l.fn.out
