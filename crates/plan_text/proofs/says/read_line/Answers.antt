-- `read_line` meets its contract: a line without a word says nothing, and the first word of another tells its kind.
use Rattle.std.proofs.Common.{arith, drop, sym, ap, subst, ◌∙◌}
use Rattle.std.proofs.lemmas.Result.{err_from_is_err_and}
use Rattle.words.specs.Words.{words}
use Rattle.words.specs.laws.Words.{word_there, word_missing, word_within}
use Rattle.plan_text.specs.Line.{Line, form_by, kindly}
use Rattle.plan_text.specs.Reading.{SaysAs}
use Rattle.plan_text.specs.declared.grammar.Kind.{Kind}
use Rattle.plan_text.specs.laws.Words.{line_none, line_some}
use Rattle.plan_text.proofs.says.read_line.Goals as goal

pub returns-then-word : goal.returns-then-word
returns-then-word c = sym (line_none (form_by c.args.newer) c.args.begun (words c.args.line.now) (word_missing c.args.line.now 0 c.word_at-word.ensures c.if-word.true))

pub slice_bounds-kind_in-end : goal.slice_bounds-kind_in-end
slice_bounds-kind_in-end c = omega (arith, word_within c.args.line.now 0 c.word_at-word.ensures (omega arith))

pub read_kind-requires : goal.read_kind-requires
read_kind-requires c = (word_within c.args.line.now 0 c.word_at-word.ensures (omega arith), c.requires.0, c.requires.1)

-- what the line says, by its first word
pub returns-in_err-says : goal.returns-in_err-says
returns-in_err-says c =
    let a = c.args in
    let line = line_some (form_by a.newer) a.begun (words a.line.now) (word_there a.line.now 0 c.word_at-word.ensures c.if-word.false) in
    let p = err_from_is_err_and c.from_residual.result c.from_residual.ensures.1 in
    rw (p.1, p.2) (c.in_err-says.ensures ∙ ap (λ (k : Kind). kindly (form_by a.newer) k (words (drop c.word_at-word.result.end a.line.now))) c.kind_in-kind.ensures ∙ sym line)

pub returns : goal.returns
returns c =
    let a = c.args in
    let line = line_some (form_by a.newer) a.begun (words a.line.now) (word_there a.line.now 0 c.word_at-word.ensures c.if-word.false) in
    subst (λ (l : Line). SaysAs (form_by a.newer) l c.read_kind.new.numbers c.read_kind.new.route c.in_ok-says.says)
    (ap (λ (k : Kind). kindly (form_by a.newer) k (words (drop c.word_at-word.result.end a.line.now))) c.kind_in-kind.ensures ∙ sym line) c.in_ok-says.ensures
