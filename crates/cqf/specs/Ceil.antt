-- Division rounded up. The rules of a run do not use it: the condition does, and the widened duration of clocks that differ.
use Rattle.std.specs.Prelude.{ℕ, pred, ◌+◌, ◌/◌}

-- a / b rounded up, for b above 0
unfoldable pub ceil_div : ℕ → ℕ → ℕ
ceil_div a b = (a + pred b) / b
