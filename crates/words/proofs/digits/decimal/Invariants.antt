-- `decimal` meets its contract. The loop's invariant: the value so far and the digits that are left make the number of the text.
use Rattle.std.proofs.Common.{◌≡◌, ◌≤◌, drop}
use Rattle.words.specs.Decimal.{value_from, capped_option_at, decimal_at}
use Rattle.words.proofs.digits.decimal.Given as goal

abbrev pub invariant-loop-digit : goal.invariant-loop-digit
invariant-loop-digit g l = record {
  within : l.value ≤ g.row.MOST;
  same : capped_option_at g.row.MOST (value_from l.value (drop l.digit-index l.text)) ≡ decimal_at g.row.MOST l.text;
}
