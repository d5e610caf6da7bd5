-- The sizes of the kinds passed are summed.
use mathlib.Core.Path.{◌≡◌}
use Rattle.cqf.specs.Bounded.{sum_to}
use Rattle.plan.specs.Answer.{form_of}
use Rattle.tables.specs.Lent.{plan_lent}
use Rattle.saving.specs.Slots.{kind_size, kind_at}
use Rattle.saving.proofs.whole.saved_size.Given as goal

abbrev pub invariant-loop-k : goal.invariant-loop-k
invariant-loop-k l = l.size ≡ sum_to l.k (λ i. kind_size (kind_at (form_of l.form) i) (plan_lent l.held.lent))
