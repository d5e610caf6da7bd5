-- `put_bytes` meets its contract.
use Rattle.std.proofs.Common.{arith}
use Rattle.text_writing.specs.laws.Puts.{puts_none, puts_front, puts_all}
use Rattle.text_writing.proofs.number.put_bytes.Goals as goal

pub loop-byte-init : goal.loop-byte-init
loop-byte-init c = puts_none _ _ _

pub loop-byte-preserved : goal.loop-byte-preserved
loop-byte-preserved c = puts_front c.args.bytes.now c.loop-byte.byte-index (omega arith) c.loop-byte.invariant c.put_byte-next.ensures

pub returns : goal.returns
returns c = puts_all c.args.bytes.now c.loop-byte.byte-index (omega arith) c.loop-byte.invariant
