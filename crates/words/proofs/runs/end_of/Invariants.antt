-- `end_of` meets its contract. The loop's invariant: from where it is the bytes reach as far as from where it began.
use Rattle.std.proofs.Common.{◌≡◌, ℕ, Bool, ◌+◌, drop}
use Rattle.words.specs.Run.{run}
use Rattle.words.proofs.runs.end_of.Given as goal

abbrev pub invariant-loop-i : goal.invariant-loop-i
invariant-loop-i g l =
    (test : ℕ → Bool)
    → ((c : ℕ) (b : Bool) → goal.F-post g l.is_kind c b → b ≡ test c)
    → l.i + run test (drop l.i l.text) ≡ l.at + run test (drop l.at l.text)
