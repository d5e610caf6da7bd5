-- `put_digits` meets its contract: none of its digits, one, or the last behind the others.
use Rattle.text_writing.specs.laws.Digits.{puts_no_digit, puts_digit, puts_last}
use Rattle.text_writing.proofs.number.+put_digits.Goals as goal

pub returns-then-most-eq0 : goal.returns-then-most-eq0
returns-then-most-eq0 t c = puts_no_digit c.args.most c.args.n c.if-most-eq0.true

pub returns-then-n-lt10 : goal.returns-then-n-lt10
returns-then-n-lt10 t c = puts_digit c.args.most c.args.n c.if-most-eq0.false c.if-n-lt10.true c.put_byte.ensures

pub returns : goal.returns
returns t c = puts_last c.args.most c.args.n c.if-most-eq0.false c.if-n-lt10.false c.put_digits-next.ensures c.put_byte-2.ensures
