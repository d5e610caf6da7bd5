-- `split_head` meets its contract: at each return the tests that led there say whether the field ends within the plan.
use mathlib.Core.Path.{sym, ap, ◌∙◌}
use native.Mathlib.Omega.{arith}
use Rattle.plan.specs.Bytes.{tag_at, size_at}
use Rattle.plan.specs.Field.{head}
use Rattle.plan.specs.laws.Whole.{whole, not_whole, head_whole, head_cut}
use Rattle.plan.proofs.split.split_head.Goals as goal

pub returns-in_err-left : goal.returns-in_err-left
returns-in_err-left c = rw c.from_residual.ensures (sym (head_cut _ _ (not_whole _ _ (omega (arith, c.in_err-left.ensures)))))

pub returns-then-left-lt-HEAD_SIZE : goal.returns-then-left-lt-HEAD_SIZE
returns-then-left-lt-HEAD_SIZE c = sym (head_cut _ _ (not_whole _ _ (omega arith)))

pub returns-then-left-size : goal.returns-then-left-size
unfolding size_at
returns-then-left-size c = sym (head_cut _ _ (not_whole _ _ (omega arith)))

pub returns : goal.returns
unfolding size_at
returns c =
    let a = c.args in
    ap (head (tag_at a.plan.now a.at)) c.be16-size.ensures
    ∙ sym (head_whole a.plan.now a.at (whole a.plan.now a.at (omega arith)))
