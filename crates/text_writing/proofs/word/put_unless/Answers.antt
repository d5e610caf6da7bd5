-- `put_unless` meets its contract, by the number.
use Rattle.std.proofs.Common.{eq-eqb}
use Rattle.text_writing.specs.laws.Puts.{puts_none}
use Rattle.text_writing.proofs.word.put_unless.Goals as goal

pub returns-then-n-absent : goal.returns-then-n-absent
returns-then-n-absent c = rw (eq-eqb c.args.n c.args.absent c.if-n-absent.true) (puts_none _ _ _)
