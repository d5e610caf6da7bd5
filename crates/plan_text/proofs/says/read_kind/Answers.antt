-- `read_kind` meets its contract, by whether the words of its numbers stand there.
use Rattle.std.proofs.Common.{drop, sym, subst, ◌∙◌}
use Rattle.words.specs.Words.{words}
use Rattle.plan_text.specs.Line.{Line, form_by}
use Rattle.plan_text.specs.Reading.{KindReads}
use Rattle.plan_text.specs.laws.Words.{kindly_other, kindly_wrong, kindly_matched}
use Rattle.plan_text.proofs.says.read_kind.Goals as goal

pub returns-then-is_other : goal.returns-then-is_other
returns-then-is_other c =
    let a = c.args in
    rw c.refused.ensures (sym (kindly_other (form_by a.newer) a.kind (words (drop a.at a.line.now)) (sym c.is_other.ensures ∙ c.if-is_other.true)))

pub returns-in-Err : goal.returns-in-Err
returns-in-Err c =
    let a = c.args in
    rw c.refused-in-Err.ensures
    (sym (kindly_wrong (form_by a.newer) a.kind (words (drop a.at a.line.now)) (sym c.is_other.ensures ∙ c.if-is_other.false) c.in-Err.ensures))

pub returns-in-Ok : goal.returns-in-Ok
returns-in-Ok c =
    let a = c.args in
    subst (λ (l : Line). KindReads (form_by a.newer) l c.match_items.new.numbers c.read_behind.new.route c.read_behind.result)
    (sym (kindly_matched (form_by a.newer) a.kind (words (drop a.at a.line.now)) (sym c.is_other.ensures ∙ c.if-is_other.false) c.in-Ok.ensures.reads))
    c.read_behind.ensures
