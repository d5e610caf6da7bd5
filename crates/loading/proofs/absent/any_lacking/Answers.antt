use Prim.Native.Nat.{ℕ, ◌+◌}
use mathlib.Core.Path.{◌≡◌, refl, sym, ap, ◌∙◌}
use mathlib.Core.Bool.{Bool, ◌||◌, or-true, or-false}
use native.Mathlib.Numerals.{add-one}
use native.Mathlib.Omega.{arith}
use borrow.Author.Tests.{lt-ltb, le-ltb}
use lib.ListN.{length}
use Rattle.cqf.specs.Bounded.{any_to}
use Rattle.loading.proofs.absent.any_lacking.Invariants.{lacks_at}
use Rattle.loading.proofs.absent.any_lacking.Goals as goal
use Rattle.loading.proofs.absent.any_lacking.Goals.{then-others-i, else-others-i}

any_more : (n : ℕ) (b : ℕ → Bool) → any_to (n + 1) b ≡ any_to n b || b n
unfolding any_to
any_more n b = rw (add-one n)

pub loop-i-init : goal.loop-i-init
unfolding any_to
loop-i-init c = (omega arith, refl)

pub loop-i-preserved : goal.loop-i-preserved
loop-i-preserved c =
    let b = lacks_at c.args.marks.now c.args.others.now in
    let i = c.loop-i.i in (
      omega arith,
      elim c.if-others-i.branch [
        | then-others-i w ↦ w.found-is ∙ sym (any_more i b ∙ rw (lt-ltb _ _ w.if-others-i.true) (or-true (any_to i b)))
        | else-others-i w ↦ w.found-is ∙ c.loop-i.invariant.1 ∙ sym (any_more i b ∙ rw (le-ltb _ _ w.if-others-i.false) (or-false (any_to i b)))
      ],
    )

pub returns : goal.returns
returns c =
    let all : c.loop-i.i ≡ length c.args.marks.now = omega arith in
    c.loop-i.invariant.1 ∙ ap (λ (n : ℕ). any_to n (lacks_at c.args.marks.now c.args.others.now)) all
