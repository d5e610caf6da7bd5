-- `take_item` meets its contract, by whether the number's word stands at the position.
use Rattle.std.proofs.Common.{sym, ◌∙◌, arith, drop}
use Rattle.words.specs.Words.{words}
use Rattle.words.specs.laws.Words.{word_there, word_missing, word_within}
use Rattle.plan_text.specs.laws.Line.{item_own, item_none, item_word, item_other}
use Rattle.plan_text.proofs.line.take_item.Goals as goal
use Rattle.plan_text.proofs.line.take_item.Goals.{else-word-via-then-word+else-is_word_of, else-word-via-else-word}

pub returns-then-is_own : goal.returns-then-is_own
returns-then-is_own c =
    item_own c.args.item (words (drop c.args.at c.args.line.now)) c.args.line.now (sym c.is_own.ensures ∙ c.if-is_own.true) c.number_at.ensures

pub slice_bounds-is_word_of-end : goal.slice_bounds-is_word_of-end
slice_bounds-is_word_of-end c = omega (arith, word_within c.args.line.now c.args.at c.word_at-word.ensures c.requires)

pub number_at-requires-then-is_word_of : goal.number_at-requires-then-is_word_of
number_at-requires-then-is_word_of c = word_within c.args.line.now c.args.at c.word_at-word.ensures c.requires

pub returns-then-is_word_of : goal.returns-then-is_word_of
returns-then-is_word_of c =
    let line = c.args.line.now in
    item_word c.args.item (words (drop c.args.at line)) line (sym c.is_own.ensures ∙ c.if-is_own.false) (word_there line c.args.at c.word_at-word.ensures c.if-word.true)
    (sym c.is_word_of.ensures ∙ c.if-is_word_of.true) c.number_at-then-is_word_of.ensures

pub returns : goal.returns
returns c =
    let line = c.args.line.now in
    let ws = words (drop c.args.at line) in
    let own = sym c.is_own.ensures ∙ c.if-is_own.false in
    elim c.else-word.branch [
      | else-word-via-then-word+else-is_word_of w ↦
          item_other c.args.item ws line own (word_there line c.args.at c.word_at-word.ensures w.if-word.true) (sym w.is_word_of.ensures ∙ w.if-is_word_of.false)
      | else-word-via-else-word w ↦ item_none c.args.item ws line own (word_missing line c.args.at c.word_at-word.ensures w.if-word.false)
    ]
