-- `number_at` meets its contract: the first word lies within the line.
use Rattle.std.proofs.Common.{arith}
use Rattle.words.specs.laws.Words.{word_within}
use Rattle.plan_text.specs.laws.Line.{number_there}
use Rattle.plan_text.proofs.line.number_at.Goals as goal

pub slice_bounds-number_of-end : goal.slice_bounds-number_of-end
slice_bounds-number_of-end c = omega (arith, word_within c.args.line.now c.args.at c.word_at-word.ensures c.requires)

pub returns : goal.returns
returns c = number_there c.args.line.now c.args.at c.requires c.word_at-word.ensures c.number_of.ensures
