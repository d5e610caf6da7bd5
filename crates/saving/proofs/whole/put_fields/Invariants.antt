-- The fields of the kinds passed stand over the first bytes of the buffer.
use mathlib.Core.Path.{◌≡◌}
use lib.ListN.{length}
use Rattle.plan.specs.Answer.{form_of}
use Rattle.tables.specs.Lent.{plan_lent}
use Rattle.writing.specs.Laid.{Puts}
use Rattle.saving.specs.Slots.{kinds_bytes}
use Rattle.saving.proofs.whole.put_fields.Given as goal

abbrev pub invariant-loop-k : goal.invariant-loop-k
invariant-loop-k l =
    (length l.out ≡ length l.initial.out) × Puts (kinds_bytes (form_of l.form) l.k (plan_lent l.held.lent)) l.initial.out l.at l.out
