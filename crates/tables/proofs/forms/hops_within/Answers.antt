use mathlib.Core.Path.{◌≡◌, refl, sym, ◌∙◌}
use mathlib.Core.Bool.{Bool, true, false, ◌&&◌}
use Prim.Native.Nat.{ℕ, ◌+◌}
use native.Mathlib.Numerals.{add-one}
use borrow.Author.Rules.{rules}
use borrow.Author.Tests.{le-leb, lt-leb}
use Rattle.cqf.specs.Bounded.{all_to}
use Rattle.tables.proofs.forms.hops_within.Goals as goal
use Rattle.tables.proofs.forms.hops_within.Goals.{then-most-count, else-most-count}

and_false : (b : Bool) → b && false ≡ false
and_false true = refl
and_false false = refl

and_true : (b : Bool) → b && true ≡ b
and_true true = refl
and_true false = refl

-- one slot more
next_false : (n : ℕ) (b : ℕ → Bool) → b n ≡ false → false ≡ all_to (n + 1) b
unfolding all_to
next_false n b e = rw (add-one n, e) (sym (and_false (all_to n b)))

next_true : (n : ℕ) (b : ℕ → Bool) {within : Bool} → within ≡ all_to n b → b n ≡ true → within ≡ all_to (n + 1) b
unfolding all_to
next_true n b is e = is ∙ rw (add-one n, e) (sym (and_true (all_to n b)))

pub loop-count-init : goal.loop-count-init
unfolding all_to
loop-count-init c = search rules

pub loop-count-preserved : goal.loop-count-preserved
loop-count-preserved c =
    let at = c.loop-count in
    elim c.if-most-count.branch [
      | then-most-count w ↦ w.within-is ∙ next_false at.count-index _ (lt-leb _ _ w.if-most-count.true)
      | else-most-count w ↦ w.within-is ∙ next_true at.count-index _ at.invariant (le-leb _ _ w.if-most-count.false)
    ]
