-- `with_digit` meets its contract: a number past 64 bits is past the most too.
use Rattle.std.proofs.Common.{◌+◌, ◌*◌, arith}
use Rattle.words.specs.laws.Decimal.{capped_min}
use Rattle.words.proofs.digits.with_digit.Goals as goal

pub returns : goal.returns
returns g c = omega (arith, capped_min g.row.MOST (10 * c.args.value + c.args.digit), g.MOST.fits)
