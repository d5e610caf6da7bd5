-- `questions::demand::add_route` meets its contract. The loop's invariant: the bits are added at the ports passed.
use Prim.Native.Nat.{ℕ, ◌*◌}
use mathlib.Core.List.{List}
use lib.ListN.{get_or}
use Rattle.cqf.specs.Bounded.{sublist}
use Rattle.cqf.specs.Port.{bits_of}
use Rattle.tables.specs.Columns.{Marked}
use Rattle.questions.proofs.demand.add_route.Given as goal

-- the wire bits of the frames at the port in slot q
abbrev pub bits_in : (frames bytes : ℕ) → List ℕ → ℕ → ℕ
bits_in frames bytes extras q = frames * bits_of bytes (get_or extras q 0)

abbrev pub invariant-loop-i : goal.invariant-loop-i
invariant-loop-i l = Marked l.fn.out l.out (sublist l.lent.routes.now l.base l.i) (bits_in l.frames l.bytes l.lent.extras.now)
