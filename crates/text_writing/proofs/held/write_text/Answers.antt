-- `write_text` meets its contract: the refusals in their order, and the text where there is room for it.
use Rattle.std.proofs.Common.{◌≤◌, arith, length, sym, ◌∙◌, leb-true, leb-false}
use Rattle.plan.specs.Answer.{form_of}
use Rattle.plan_text.specs.Print.{text_of}
use Rattle.tables.specs.Lent.{plan_lent}
use Rattle.text_writing.specs.laws.Puts.{puts_size, puts_over}
use Rattle.text_writing.specs.laws.Text.{text_none, text_short, text_written}
use Rattle.text_writing.proofs.held.write_text.Goals as goal

pub returns-in_default : goal.returns-in_default
returns-in_default c = text_none (form_of c.args.form) (plan_lent c.args.lent) c.args.out.now c.in_default.ensures

pub returns-then-not-has_room : goal.returns-then-not-has_room
returns-then-not-has_room c =
    let held = c.in-Some.held in
    let short = leb-false _ _ (sym c.has_room.ensures ∙ c.if-not-has_room.true) in
    rw (sym c.in-Some.ensures) (text_short (form_of c.args.form) (plan_lent held.lent) c.args.out.now held.valid c.put_text-needed.result (puts_size c.put_text-needed.ensures) short)

pub returns : goal.returns
returns c =
    let held = c.in-Some.held in
    let p = plan_lent held.lent in
    let needed = puts_size c.put_text-needed.ensures in
    let room = leb-true _ _ (sym c.has_room.ensures ∙ c.if-not-has_room.false) in
    let fits : length (text_of (form_of c.args.form) p) ≤ length c.args.out.now = omega (arith, needed, room) in
    rw (sym c.in-Some.ensures) (text_written (form_of c.args.form) p c.args.out.now held.valid c.put_text-needed.result needed room (puts_over c.put_text.ensures fits))
