-- `decimal` meets its contract. The loop's invariant: the value so far and the digits that are left make the number of the text.
use Rattle.std.proofs.Common.{◌≡◌, ◌≤◌, drop}
use Rattle.words.specs.Decimal.{value_from, capped_option_at}
use Rattle.arguments.specs.Decimal.{largest, decimal_value}
use Rattle.arguments.proofs.digits.decimal.Given as goal

abbrev pub invariant-loop-digit : goal.invariant-loop-digit
invariant-loop-digit l = record {
  within : l.value ≤ largest;
  same : capped_option_at largest (value_from l.value (drop l.digit-index l.text)) ≡ decimal_value l.text;
}
