-- `questions::demand::wide_begun` meets its contract: a quotient by 0 is 0.
use mathlib.Core.Path.{sym, ap₂}
use Prim.Native.Nat.{ℕ, pred, ◌+◌, ◌/◌}
use native.Mathlib.Omega.{arith}
use Rattle.std.proofs.Math.Nat.{div-zero}
use Rattle.cqf.specs.Ceil.{ceil_div}
use Rattle.questions.proofs.demand.wide_begun.Goals as goal

pub returns-then-period-eq0 : goal.returns-then-period-eq0
unfolding ceil_div
returns-then-period-eq0 c = rw c.if-period-eq0.true (sym (div-zero (c.args.widened + c.args.jitter + pred 0)))

pub returns : goal.returns
unfolding ceil_div
returns c = ap₂ (λ (n m : ℕ). n / m) (omega (arith, c.from.ensures, c.from-2.ensures, c.from-3.ensures, c.if-period-eq0.false)) c.from-4.ensures
