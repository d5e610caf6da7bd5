-- What the question for a gate control list answers and leaves in the lent buffer, for any held plan, any duration, any two queues
-- and any buffer. Tables that are not valid count as no plan held (refusal 20).
use Rattle.std.specs.Prelude.{ℕ, ◌-◌, List, [], ◌∷◌, Bool, cond, not, ◌&&◌, leb, eqb}
use Rattle.cqf.specs.Plan.{Plan, valid_plan}
use Rattle.cqf.specs.Condition.{admissible, failing, lowest_failing}
use Rattle.gate_lists.specs.GateList.{queues, gate_list_bytes}
use Rattle.answers.specs.Answer.{Answer, refusal}
use Rattle.answers.specs.Refusals.{bad_queue, not_admissible}
use Rattle.questions.specs.Outcome.{asked, failing_at}
use Rattle.writing.specs.Answer.{written_answer, written_leaves}

-- the last queue of a port
abbrev pub last_queue : ℕ
last_queue = queues - 1

-- two different queues of the eight
abbrev pub queues_ok : (even odd : ℕ) → Bool
queues_ok even odd = leb even last_queue && (leb odd last_queue && not (eqb even odd))

-- what is said of an admissible duration: 18, then 13
abbrev pub list_answer : Plan → (T even odd : ℕ) → (buffer : List ℕ) → Answer ℕ
list_answer p T even odd buffer =
    cond (queues_ok even odd) (written_answer (gate_list_bytes p T even odd) buffer) (refusal bad_queue (0 ∷ []))

-- 20, 10, 21, 18, then 13
unfoldable pub gates_answer : Plan → (T even odd : ℕ) → (buffer : List ℕ) → Answer ℕ
unfolding valid_plan admissible failing lowest_failing gate_list_bytes
gates_answer p T even odd buffer = asked p T (cond (admissible p T) (list_answer p T even odd buffer) (failing_at not_admissible p T))

-- the list over the buffer's first bytes; the buffer as it was where it is refused
unfoldable pub gates_leaves : Plan → (T even odd : ℕ) → (buffer : List ℕ) → List ℕ
unfolding gates_answer gate_list_bytes
gates_leaves p T even odd buffer = written_leaves (gate_list_bytes p T even odd) buffer (gates_answer p T even odd buffer)
