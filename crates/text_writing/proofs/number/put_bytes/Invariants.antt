-- The invariant of `put_bytes`: the bytes passed are written.
use Rattle.std.proofs.Common.{take}
use Rattle.text_writing.specs.Puts.{Puts}
use Rattle.text_writing.proofs.number.put_bytes.Given as goal

abbrev pub invariant-loop-byte : goal.invariant-loop-byte
invariant-loop-byte l = Puts l.byte-index (take l.byte-index l.bytes) l.initial.out l.at l.next l.out
