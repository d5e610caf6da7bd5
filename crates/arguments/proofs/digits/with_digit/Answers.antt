-- `with_digit` meets its contract, by whether the number would pass the largest.
use Rattle.std.proofs.Common.{sym, ◌+◌, ◌*◌, arith}
use Rattle.words.specs.laws.Decimal.{capped_same, capped_above}
use Rattle.arguments.specs.Decimal.{largest}
use Rattle.arguments.proofs.digits.with_digit.Goals as goal

pub returns-then-room-value : goal.returns-then-room-value
returns-then-room-value c = sym (capped_above largest (10 * c.args.value + c.args.digit) (omega arith))

pub returns : goal.returns
returns c = sym (capped_same largest (10 * c.args.value + c.args.digit) (omega arith))
