-- An answer with the buffer as it is left.
use Rattle.std.specs.Prelude.{ℕ, ◌≡◌, List}
use Rattle.cqf.specs.Plan.{Plan}
use Rattle.answers.specs.Answer.{Answer}
use Rattle.gate_writing.specs.Gates.{gates_answer, gates_leaves}

abbrev pub Gated : Plan → (T even odd : ℕ) → (buffer : List ℕ) → Answer ℕ → (exit : List ℕ) → Type 0
Gated p T even odd buffer answer exit = (answer ≡ gates_answer p T even odd buffer) × (exit ≡ gates_leaves p T even odd buffer)
