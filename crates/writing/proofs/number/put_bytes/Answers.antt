-- `put_bytes` meets its contract: the bytes are laid where there is room for them.
use mathlib.Core.Path.{sym, ap, ◌∙◌}
use mathlib.Core.List.{List, ◌++◌}
use Prim.Native.Nat.{ℕ}
use native.Mathlib.Omega.{arith}
use lib.ListN.{length, drop}
use Rattle.writing.specs.laws.Laid.{laid-over, laid_short}
use Rattle.writing.proofs.number.put_bytes.Goals as goal

pub returns-then-bytes-out : goal.returns-then-bytes-out
returns-then-bytes-out c =
    let a = c.args in
    ap (λ (l : List ℕ). l ++ drop (length a.bytes.now) a.out.now) c.copy_from_slice.ensures.after ∙ sym (laid-over a.bytes.now a.out.now (omega arith))

pub returns-else-bytes-out : goal.returns-else-bytes-out
returns-else-bytes-out c = sym (laid_short c.args.bytes.now c.args.out.now (omega arith))
