-- `save_tables` meets its contract: the refusals in their order, and the fields where there is room for them.
use Prim.Native.Nat.{◌≤◌, ◌<◌}
use mathlib.Core.Path.{◌≡◌, sym, ◌∙◌}
use native.Mathlib.Omega.{arith}
use borrow.Author.Tests.{leb-true, leb-false}
use lib.ListN.{length}
use Rattle.plan.specs.Answer.{form_of}
use Rattle.plan_reading.specs.Saved.{form_bytes}
use Rattle.tables.specs.Lent.{plan_lent}
use Rattle.saving.specs.laws.Whole.{size_needed}
use Rattle.saving.specs.laws.Outcome.{saves_none, saves_short, saves_written}
use Rattle.saving.proofs.held.save_tables.Goals as goal

pub returns-in_default : goal.returns-in_default
returns-in_default c = saves_none (form_of c.args.form) (plan_lent c.args.lent) c.args.buffer.now c.in_default.ensures

pub returns-then-not-has_room : goal.returns-then-not-has_room
returns-then-not-has_room c =
    let form = form_of c.args.form in
    let e = c.args.buffer.now in
    let held = c.in-Some.held in
    let p = plan_lent held.lent in
    let n = c.saved_size-needed.result in
    let needed : n ≡ length (form_bytes form p) = c.saved_size-needed.ensures ∙ size_needed form p in
    let short : length e < n = leb-false _ _ (sym c.has_room.ensures ∙ c.if-not-has_room.true) in
    rw (sym c.in-Some.ensures) (saves_short form p e held.valid n needed short)

pub put_fields-requires : goal.put_fields-requires
put_fields-requires c =
    let form = form_of c.args.form in
    let p = plan_lent c.in-Some.held.lent in
    let n = c.saved_size-needed.result in
    let needed : n ≡ length (form_bytes form p) = c.saved_size-needed.ensures ∙ size_needed form p in
    let room : n ≤ length c.args.buffer.now = leb-true _ _ (sym c.has_room.ensures ∙ c.if-not-has_room.false) in
    omega (arith, needed, room)

pub returns : goal.returns
returns c =
    let form = form_of c.args.form in
    let e = c.args.buffer.now in
    let held = c.in-Some.held in
    let p = plan_lent held.lent in
    let n = c.saved_size-needed.result in
    let needed : n ≡ length (form_bytes form p) = c.saved_size-needed.ensures ∙ size_needed form p in
    let room : n ≤ length e = leb-true _ _ (sym c.has_room.ensures ∙ c.if-not-has_room.false) in
    rw (sym c.in-Some.ensures) (saves_written form p e held.valid n needed room c.put_fields.ensures)
