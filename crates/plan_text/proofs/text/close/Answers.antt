-- `close` meets its contract, test by test.
use Rattle.std.proofs.Common.{sym, ap, arith, not, refl}
use Rattle.plan_text.specs.Drafting.{draft_of}
use Rattle.plan_text.specs.laws.Absent.{no_guard, no_top, no_flow, one_absent, none_absent}
use Rattle.plan_text.proofs.text.close.Goals as goal

pub returns-then-is_none : goal.returns-then-is_none
returns-then-is_none c =
    rw (c.at_line.ensures, c.refused.ensures) (sym (no_guard (draft_of c.args.draft.now) c.args.number (ap not c.if-is_none.ensures)))

pub returns-then-is_none-2 : goal.returns-then-is_none-2
returns-then-is_none-2 c =
    rw (c.at_line-then-is_none-2.ensures, c.refused-then-is_none-2.ensures)
    (sym (no_top (draft_of c.args.draft.now) c.args.number (ap not c.if-is_none.ensures) (ap not c.if-is_none-2.ensures)))

pub returns-then-not-draft : goal.returns-then-not-draft
returns-then-not-draft c =
    rw (c.at_line-then-not-draft.ensures, c.refused-then-not-draft.ensures)
    (sym (no_flow (draft_of c.args.draft.now) c.args.number (ap not c.if-is_none.ensures) (ap not c.if-is_none-2.ensures) (ap not c.if-not-draft.true)))

pub returns-in-Some : goal.returns-in-Some
returns-in-Some c =
    sym (one_absent (draft_of c.args.draft.now) c.args.number (ap not c.if-is_none.ensures) (ap not c.if-is_none-2.ensures) (ap not c.if-not-draft.false)
    c.in-Some.ensures.same (λ e. omega (arith, c.in-Some.ensures.named)))

pub returns : goal.returns
returns c =
    sym (none_absent (draft_of c.args.draft.now) c.args.number (ap not c.if-is_none.ensures) (ap not c.if-is_none-2.ensures) (ap not c.if-not-draft.false)
    c.in_default.ensures.same refl)
