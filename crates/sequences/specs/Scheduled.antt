-- What a gate control list is for: the bytes that were written, played as a reader plays them, are two cycles of the duration.
use Rattle.std.specs.Prelude.{◌≡◌, List, true, ℕ, ◌≤◌, length, take, drop}
use Rattle.cqf.specs.Plan.{Plan}
use Rattle.gate_lists.specs.GateList.{list_size}
use Rattle.gate_lists.specs.Playing.{PlaysTwoCycles}
use Rattle.answers.specs.Answer.{result}
use Rattle.questions.specs.Outcome.{check_answer}
use Rattle.gate_writing.specs.Gates.{queues_ok}

-- A buffer as it was and as it is left, with n bytes written. They play two cycles of T ns with the guard bands of the plan p: the
-- intervals total 2T, none is 0 and one ends at T, each of the two queues is open in the window of its own cycle alone, so never
-- both, and the other six always. With their number it follows that each cycle is S, window, S. The bytes behind them remain.
pub record Schedules (p : Plan) (T even odd : ℕ) (buffer exit : List ℕ) (n : ℕ) : Type 0 where
  pub plays : PlaysTwoCycles p.guard T even odd (take n exit)
  pub size : n ≡ list_size p
  pub rest : drop n exit ≡ drop n buffer

-- the plain question accepts the duration, the queues are two of the eight, and the buffer has room for the list
pub record Writable (p : Plan) (T even odd : ℕ) (buffer : List ℕ) : Type 0 where
  pub accepts : check_answer p T ≡ result tt
  pub queues : queues_ok even odd ≡ true
  pub room : list_size p ≤ length buffer
