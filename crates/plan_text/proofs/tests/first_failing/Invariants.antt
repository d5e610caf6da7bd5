-- `first_failing` meets its contract. The invariant: the first i numbers pass, so the others tell.
use Rattle.std.proofs.Common.{◌≡◌, ℕ, Bool}
use Rattle.plan_text.specs.Line.{first_failing}
use Rattle.plan_text.specs.laws.Failing.{from}
use Rattle.plan_text.proofs.tests.first_failing.Given as goal

abbrev pub invariant-loop-i : goal.invariant-loop-i
invariant-loop-i g l =
    (test : ℕ → ℕ → Bool)
    → ((i n : ℕ) (b : Bool) → goal.F-post g l.passes i n b → b ≡ test i n)
    → first_failing test l.list ≡ from test l.list l.i
