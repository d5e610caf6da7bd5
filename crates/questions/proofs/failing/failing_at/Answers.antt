-- `questions::failing::failing_at` meets its contract.
use mathlib.Core.Path.{◌≡◌, ◌∙◌}
use borrow.Author.Rules.{rules}
use lib.ListN.{get_or}
use Rattle.questions.specs.laws.Scratch.{filled_by, filled_bits}
use Rattle.questions.proofs.failing.failing_at.Goals as goal

pub failing_by-requires-clause-demands : goal.failing_by-requires-clause-demands
failing_by-requires-clause-demands c = λ q bits l e.
    let is : bits ≡ get_or c.demands.new.out q 0 = search rules in
    is ∙ filled_bits (filled_by c.args.held.now.valid c.requires.1 c.demands.ensures) q l
