-- `step` meets its contract, by what the line says.
use Rattle.std.proofs.Common.{take, sym, subst, Ok}
use Rattle.std.specs.Prelude.{Option}
use Rattle.std.proofs.lemmas.Result.{err_from_is_err_and}
use Rattle.words.specs.Words.{words}
use Rattle.plan_text.specs.Line.{form_by, line_of}
use Rattle.plan_text.specs.Reading.{numbers_by, LineReads}
use Rattle.plan_text.specs.Drafting.{draft_of}
use Rattle.plan_text.specs.declared.says.Says.{Says}
use Rattle.plan_text.specs.laws.Steps.{step_nothing, step_refused, step_says}
use Rattle.plan_text.proofs.draft.step.Goals as goal

pub returns-in_err-read_line : goal.returns-in_err-read_line
returns-in_err-read_line c =
    let p = err_from_is_err_and c.from_residual.result c.from_residual.ensures.1 in
    rw (p.1, p.2) (step_refused c.args.number (draft_of c.args.draft.now) c.args.line.now (sym c.in_err-read_line.ensures))

pub returns-in-None : goal.returns-in-None
returns-in-None c =
    let a = c.args in
    let read = subst
    (λ (o : Option Says). LineReads (form_by a.draft.now.newer) (line_of (form_by a.draft.now.newer) a.draft.now.begun (words a.line.now)) c.read_line.new.numbers c.read_line.new.route (Ok o))
    c.in-None.is c.in_ok-read_line.ensures in
    step_nothing a.number (draft_of a.draft.now) a.line.now (sym read)

pub returns-in-Some : goal.returns-in-Some
returns-in-Some c =
    let a = c.args in
    let k = c.in-Some.says.kind in
    let read = subst
    (λ (o : Option Says). LineReads (form_by a.draft.now.newer) (line_of (form_by a.draft.now.newer) a.draft.now.begun (words a.line.now)) c.read_line.new.numbers c.read_line.new.route (Ok o))
    c.in-Some.is c.in_ok-read_line.ensures in
    step_says a.number (draft_of a.draft.now) a.line.now k (numbers_by k c.read_line.new.numbers) (take c.in-Some.says.hops c.read_line.new.route) (sym read.says) read.fits
    c.take_line.ensures
