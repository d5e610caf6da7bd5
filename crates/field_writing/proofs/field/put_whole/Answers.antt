-- `put_whole` meets its contract: 13 where there is no room, else the copy.
use mathlib.Core.Path.{◌≡◌, refl, sym, ◌∙◌}
use mathlib.Core.Bool.{true, false}
use borrow.Author.Tests.{leb-false}
use lib.Dec.{leb}
use lib.ListN.{length}
use Rattle.writing.specs.laws.Laid.{laid_short}
use Rattle.field_writing.proofs.field.put_whole.Goals as goal

pub returns-then-not-has_room : goal.returns-then-not-has_room
returns-then-not-has_room c =
    let a = c.args in
    let short : leb (length a.field.now) (length a.buffer.now) ≡ false = sym c.has_room.ensures ∙ c.if-not-has_room.true in
    (rw short refl, sym (laid_short a.field.now a.buffer.now (leb-false _ _ short)))

pub returns : goal.returns
returns c =
    let a = c.args in
    let enough : leb (length a.field.now) (length a.buffer.now) ≡ true = sym c.has_room.ensures ∙ c.if-not-has_room.false in
    (rw enough refl, c.put_bytes.ensures)
