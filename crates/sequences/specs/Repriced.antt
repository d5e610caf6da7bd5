-- What is said of another frame length for one flow: of the list that was written, of the plan in the bytes so changed, and of a
-- slack as a frame or a cycle grows longer.
use Rattle.std.specs.Prelude.{◌≡◌, true, false, List, ℕ, suc, ◌+◌, ◌-◌, ◌*◌, ◌≤◌, ℤ, pos, ◌+ℤ◌, ◌-ℤ◌, length, get_or, ◌≤ℤ◌}
use Rattle.cqf.specs.Form.{Form}
use Rattle.cqf.specs.Limits.{port_slots}
use Rattle.cqf.specs.Plan.{Plan, rate_of, crosses}
use Rattle.cqf.specs.Condition.{frames, crossed}
use Rattle.cqf.specs.Reprice.{with_length, demand_growth}
use Rattle.plan_reading.specs.Reading.{Mode}
use Rattle.plan_reading.specs.Relength.{relengthed_bytes}
use Rattle.answers.specs.Answer.{result}
use Rattle.loading.specs.Outcome.{load_answer, load_leaves}
use Rattle.questions.specs.Outcome.{slack_answer}
use Rattle.questions.specs.Reprice.{reprice_leaves}

-- The plan p saved in this form, with frames of this many bytes for flow n and nothing else changed: either load accepts it and then holds the
-- plan with that length, whatever was held before.
pub record ReadsChanged (form : Form) (p : Plan) (n bytes : ℕ) : Type 0 where
  pub ports : ℕ
  pub flows : ℕ
  pub accepted : (mode : Mode) → load_answer mode (relengthed_bytes form p n bytes) ≡ result (record { ports = ports; flows = flows })
  pub holds : (mode : Mode) (held : Plan) → load_leaves mode held (relengthed_bytes form p n bytes) ≡ with_length p (n - 1) bytes

-- a list that holds what a plan answers for the slack at T of each crossed port, port n at n - 1
abbrev pub HoldsAnswers : Plan → (T : ℕ) → List ℤ → Type 0
HoldsAnswers p T out = (q : ℕ) → crossed p q ≡ true → slack_answer p (suc q) T ≡ result (get_or out q (pos 0))

-- A list as it was and as it is left, where the question was answered by a result. The port in slot q has at position q what the
-- freshly loaded plan answers for its slack, where flow n crosses it; every other number remains, past the 64th too. Where the list
-- held the slacks of the held plan's crossed ports, it now holds those of the fresh one.
pub record WritesSlacks (form : Form) (p : Plan) (T n bytes : ℕ) (out exit : List ℤ) : Type 0 where
  pub size : length exit ≡ length out
  pub written
      : (mode : Mode) (held : Plan) (q : ℕ)
      → crosses p (n - 1) q ≡ true
      → slack_answer (load_leaves mode held (relengthed_bytes form p n bytes)) (suc q) T ≡ result (get_or exit q (pos 0))
  pub kept : (q : ℕ) → crosses p (n - 1) q ≡ false → get_or exit q (pos 0) ≡ get_or out q (pos 0)
  pub past : (q : ℕ) → port_slots ≤ q → get_or exit q (pos 0) ≡ get_or out q (pos 0)
  pub fresh
      : HoldsAnswers p T out
      → (mode : Mode) (held : Plan)
      → HoldsAnswers (load_leaves mode held (relengthed_bytes form p n bytes)) T exit

-- Two lengths, the second so many bytes longer, both answered by a result. Each byte more takes 8,000 times the frames that flow n
-- brings off the slack of each port on its route. No other slack moves.
pub record PerByte (form : Form) (p : Plan) (T n bytes more : ℕ) (out other : List ℤ) : Type 0 where
  pub on_route
      : (q : ℕ)
      → crosses p (n - 1) q ≡ true
      → get_or (reprice_leaves p T n (bytes + more) other) q (pos 0)
      ≡ get_or (reprice_leaves p T n bytes out) q (pos 0) -ℤ pos (more * (8000 * frames p (n - 1) T))
  pub elsewhere
      : (mode : Mode) (held : Plan) (q : ℕ)
      → crosses p (n - 1) q ≡ false
      → slack_answer (load_leaves mode held (relengthed_bytes form p n bytes)) (suc q) T ≡ slack_answer p (suc q) T

-- The slack of port n at T and at d ns more, both from 1 to top: it rises at most by what the port sends in d ns, and falls at most
-- by 1,000 times the most bits by which its demand grows.
abbrev pub BoundedChange : Plan → (n T d : ℕ) → Type 0
BoundedChange p n T d =
    (z w : ℤ)
    → slack_answer p n T ≡ result z
    → slack_answer p n (T + d) ≡ result w
    → (w ≤ℤ (z +ℤ pos (rate_of p (n - 1) * d))) × (z ≤ℤ (w +ℤ pos (1000 * demand_growth p (n - 1) d)))
