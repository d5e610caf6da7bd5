-- `number_of` meets its contract.
use Rattle.std.proofs.Common.{◌≡◌, ℕ, ap, refl, ◌∙◌, Some, None}
use Rattle.std.specs.Prelude.{Option, unwrap_or}
use Rattle.words.specs.Decimal.{parsed_of}
use Rattle.words.specs.laws.Decimal.{value-same}
use Rattle.plan_text.specs.Line.{coded, no_number}
use Rattle.plan_text.proofs.line.number_of.Goals as goal

or_none : (o : Option ℕ) → unwrap_or o no_number ≡ coded (parsed_of o)
or_none (Some n) = refl
or_none None = refl

pub returns : goal.returns
returns c = c.unwrap_or.ensures ∙ or_none c.decimal.result ∙ ap coded (c.decimal.ensures ∙ value-same c.args.word.now)
