-- `put_byte` meets its contract, by whether there is room.
use Rattle.text_writing.specs.laws.Puts.{puts_one, puts_out}
use Rattle.text_writing.proofs.number.put_byte.Goals as goal
use Rattle.text_writing.proofs.number.put_byte.Goals.{then-at-out, else-at-out}

pub returns : goal.returns
returns c =
    elim c.if-at-out.branch [
      | then-at-out w ↦ rw w.out-is (puts_one c.args.out.now c.args.at c.args.byte)
      | else-at-out w ↦ rw w.out-is (puts_out c.args.out.now c.args.at c.args.byte w.if-at-out.false)
    ]
