-- `read_behind` meets its contract: the words behind the numbers, then the tests.
use Rattle.std.proofs.Common.{ℕ, arith, List, [], Some, None, drop, map, refl, sym, subst, ◌∙◌}
use Rattle.std.proofs.lemmas.List.{length-map}
use Rattle.std.specs.Prelude.{Option as Maybe}
use Rattle.words.specs.Words.{words}
use Rattle.words.specs.Decimal.{decimal_value}
use Rattle.words.specs.laws.Words.{word_there, word_missing, word_within}
use Rattle.plan_text.specs.Line.{Line, Word, form_by}
use Rattle.plan_text.specs.Reading.{decoded, numbers_by, KindReads, PortsAs, Told}
use Rattle.plan_text.specs.laws.Words.{no_none, words_end, words-none, words_lack, words_other, words_route}
use Rattle.plan_text.proofs.says.read_behind.Goals as goal
use Rattle.plan_text.proofs.says.read_behind.Goals.{then-word-2-via-then-word-2, then-word-2-via-else-word-2+then-not-is_word_of}

-- the ports as the tests take them
told_by : (ws : List Word) (route : List ℕ) (ports : Maybe ℕ) → PortsAs ws route ports → Told route ports (map decimal_value ws)
told_by ws route (Some hops) read = (length-map ws decimal_value ∙ sym read.many, read.all, read.stored)
told_by ws route None read = read

pub returns-then-word : goal.returns-then-word
returns-then-word c =
    let a = c.args in
    rw c.refused.ensures
    (sym (words_end (form_by a.newer) a.kind (map decoded (numbers_by a.kind a.numbers.now)) (words (drop a.at a.line.now)) (sym c.is_routed.ensures ∙ c.if-not-is_routed.true)
    (word_there a.line.now a.at c.word_at-word.ensures c.if-word.true)))

pub returns-then-not-is_routed : goal.returns-then-not-is_routed
returns-then-not-is_routed c =
    let a = c.args in
    subst (λ (l : Line). KindReads (form_by a.newer) l a.numbers.now a.route.now c.test_numbers.result)
    (sym (words-none (form_by a.newer) a.kind (map decoded (numbers_by a.kind a.numbers.now)) (words (drop a.at a.line.now)) (sym c.is_routed.ensures ∙ c.if-not-is_routed.true)
    (word_missing a.line.now a.at c.word_at-word.ensures c.if-word.false)))
    (c.test_numbers.ensures [] (refl, no_none, λ few. refl))

pub slice_bounds-is_word_of-end : goal.slice_bounds-is_word_of-end
slice_bounds-is_word_of-end c = omega (arith, word_within c.args.line.now c.args.at c.word_at-word.ensures c.requires.0)

pub read_ports-ports-requires : goal.read_ports-ports-requires
read_ports-ports-requires c = (word_within c.args.line.now c.args.at c.word_at-word.ensures c.requires.0, c.requires.2)

pub returns-then-word-2 : goal.returns-then-word-2
returns-then-word-2 c =
    let a = c.args in
    let ns = map decoded (numbers_by a.kind a.numbers.now) in
    let ws = words (drop a.at a.line.now) in
    let routed = sym c.is_routed.ensures ∙ c.if-not-is_routed.false in
    rw c.refused-then-word-2.ensures
    (elim c.then-word-2.branch [
      | then-word-2-via-then-word-2 w ↦ sym (words_lack (form_by a.newer) a.kind ns ws routed (word_missing a.line.now a.at c.word_at-word.ensures w.if-word-2.true))
      | then-word-2-via-else-word-2+then-not-is_word_of w ↦
          sym (words_other (form_by a.newer) a.kind ns ws routed (word_there a.line.now a.at c.word_at-word.ensures w.if-word-2.false)
          (sym w.is_word_of.ensures ∙ w.if-not-is_word_of.true))
    ])

pub returns : goal.returns
returns c =
    let a = c.args in
    let read = c.read_ports-ports.ensures in
    let vs = words (drop c.word_at-word.result.end a.line.now) in
    let told : Told c.read_ports-ports.new.route c.read_ports-ports.result (map decimal_value vs) = told_by vs c.read_ports-ports.new.route c.read_ports-ports.result read in
    subst (λ (l : Line). KindReads (form_by a.newer) l a.numbers.now c.read_ports-ports.new.route c.test_numbers-2.result)
    (sym (words_route (form_by a.newer) a.kind (map decoded (numbers_by a.kind a.numbers.now)) (words (drop a.at a.line.now)) (sym c.is_routed.ensures ∙ c.if-not-is_routed.false)
    (word_there a.line.now a.at c.word_at-word.ensures c.if-word-2.false) (sym c.is_word_of.ensures ∙ c.if-not-is_word_of.false)))
    (c.test_numbers-2.ensures (map decimal_value vs) told)
