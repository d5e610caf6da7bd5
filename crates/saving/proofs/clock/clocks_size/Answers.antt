-- `clocks_size` meets its contract, by whether the clocks are equal.
use mathlib.Core.Path.{sym, ◌∙◌}
use Rattle.saving.proofs.clock.clocks_size.Goals as goal

pub returns-then-clocks_equal : goal.returns-then-clocks_equal
returns-then-clocks_equal c = rw (sym c.clocks_equal.ensures ∙ c.if-clocks_equal.true)

pub returns-else-clocks_equal : goal.returns-else-clocks_equal
returns-else-clocks_equal c = rw (sym c.clocks_equal.ensures ∙ c.if-clocks_equal.false)
