-- The numbers of the answer that a gate control list was written mean what the answer means.
use Rattle.std.specs.Prelude.{◌≡◌, refl, List, ℕ, Result, Ok, Err}
use Rattle.std.proofs.Common.{sym, ap, ◌∙◌, arith}
use Rattle.cqf.specs.Plan.{Plan}
use Rattle.answers.specs.Answer.{result}
use Rattle.sequences.specs.GatesMeaning.{GatesMean}
use Rattle.gate_writing.specs.Answer.{gates_of}
use Rattle.gate_writing.specs.declared.GatesRefusal.{GatesRefusal}
use Rattle.capi.specs.declared.AnswerNumbers.{AnswerNumbers}
use Rattle.capi.specs.Numbers.{written_numbers}
use Rattle.capi.specs.Meaning.{GatesNumbersMean}

-- 0 is the length written
is_written : (x : Result ℕ GatesRefusal) → (written_numbers (gates_of x)).refusal ≡ 0 → gates_of x ≡ result (written_numbers (gates_of x)).first
is_written (Ok n) e = refl
is_written (Err GatesRefusal.NoPlan) e = absurd (omega arith)
is_written (Err GatesRefusal.BadDuration) e = absurd (omega arith)
is_written (Err (GatesRefusal.Failing port count)) e = absurd (omega arith)
is_written (Err GatesRefusal.BadQueue) e = absurd (omega arith)
is_written (Err (GatesRefusal.ShortBuffer n)) e = absurd (omega arith)

pub gates_numbers_mean
    : (answer : Result ℕ GatesRefusal) (numbers : AnswerNumbers)
    → numbers ≡ written_numbers (gates_of answer)
    → (p : Plan) (T even odd : ℕ) (buffer exit : List ℕ)
    → GatesMean p T even odd buffer exit (gates_of answer)
    → GatesNumbersMean p T even odd buffer exit numbers
gates_numbers_mean answer numbers is p T even odd buffer exit means calls mode bytes q ports flows left held read zero-refusal =
    means calls mode bytes q ports flows left held read numbers.first
    (is_written answer (sym (ap (λ (n : AnswerNumbers). n.refusal) is) ∙ zero-refusal)
    ∙ ap result (sym (ap (λ (n : AnswerNumbers). n.first) is)))
