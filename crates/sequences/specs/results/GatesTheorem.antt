-- The theorems of gate control lists: over sequences of calls, and when a list is written.
use Rattle.std.specs.Prelude.{◌≡◌, ◌↔◌, true, List, ℕ, ◌≤◌, length}
use Rattle.std.proofs.Common.{subst, ◌∙◌}
use Rattle.std.proofs.Math.Option.{some}
use Rattle.cqf.specs.Bounded.{within}
use Rattle.cqf.specs.Plan.{Plan, valid_plan}
use Rattle.cqf.specs.Condition.{admissible}
use Rattle.gate_lists.specs.GateList.{list_size, gate_list_bytes}
use Rattle.gate_lists.specs.Playing.{PlaysTwoCycles}
use Rattle.gate_lists.specs.results.Theorem.{list_length, plays_two_cycles}
use Rattle.plan_reading.specs.Reading.{accepted, Mode, read_as_of}
use Rattle.plan_reading.specs.laws.fields.Within.{within_low, within_high}
use Rattle.answers.specs.Answer.{result}
use Rattle.questions.specs.Outcome.{check_answer}
use Rattle.gate_writing.specs.Gates.{queues_ok, gates_answer, gates_leaves}
use Rattle.sequences.specs.GatesMeaning.{GatesMean}
use Rattle.sequences.specs.Scheduled.{Schedules, Writable}
use Rattle.sequences.specs.Calls.{Call, after, held_bytes}
use Rattle.questions.specs.laws.Answers.{check_accepts}
use Rattle.sequences.specs.laws.Calls.{after_held}
use Rattle.gate_writing.specs.laws.Gates.{accepts_valid, even_below, odd_below, queues-apart, gates_check, gates_apart, gates_fit, gates_front, gates_rest, gates_written}

-- a duration that the plain question accepts
module _ (p : Plan) (T : ℕ) (accepts : check_answer p T ≡ result tt) where
  valid : valid_plan p ≡ true
  valid = accepts_valid p T accepts

  in_range : (within 1 p.top T ≡ true) × (admissible p T ≡ true)
  in_range = check_accepts p T valid accepts

  first : 1 ≤ T
  first = within_low 1 p.top T in_range.0

  most : T ≤ p.top
  most = within_high 1 p.top T in_range.0

  module _ (even odd : ℕ) where
    size_is : length (gate_list_bytes p T even odd) ≡ list_size p
    size_is = list_length p valid T first most in_range.1 even odd

    two_cycles : queues_ok even odd ≡ true → PlaysTwoCycles p.guard T even odd (gate_list_bytes p T even odd)
    two_cycles ok =
        plays_two_cycles p valid T first most in_range.1 even odd (even_below even odd ok) (odd_below even odd ok)
        (queues-apart even odd ok)

module _ (p : Plan) (T even odd : ℕ) (buffer : List ℕ) where
  -- what is written schedules the two cycles, whatever tables were asked
  pub schedules : (n : ℕ) → gates_answer p T even odd buffer ≡ result n → Schedules p T even odd buffer (gates_leaves p T even odd buffer) n
  schedules n e =
      let accepts = gates_check p T even odd buffer n e in
      record {
        plays = rw (gates_front p T even odd buffer n e) (two_cycles p T accepts even odd (gates_apart p T even odd buffer n e));
        size = (gates_fit p T even odd buffer n e).size ∙ size_is p T accepts even odd;
        rest = gates_rest p T even odd buffer n e;
      }

  -- A list is written exactly where the plain question accepts the duration, the queues are two of the eight, and the buffer has room
  -- for the list.
  pub written_where : gates_answer p T even odd buffer ≡ result (list_size p) ↔ Writable p T even odd buffer
  written_where = (there, back)
    where
      there : gates_answer p T even odd buffer ≡ result (list_size p) → Writable p T even odd buffer
      there e =
          record {
            accepts = gates_check p T even odd buffer (list_size p) e;
            queues = gates_apart p T even odd buffer (list_size p) e;
            room = (gates_fit p T even odd buffer (list_size p) e).room;
          }

      back : Writable p T even odd buffer → gates_answer p T even odd buffer ≡ result (list_size p)
      back w =
          let size = size_is p T w.accepts even odd in
          gates_written p T even odd buffer w.accepts w.queues (rw size w.room) ∙ rw size

-- After every sequence of calls that leaves a plan held: a list that was written, as a reader plays it, is two cycles with the guard
-- bands in the bytes of that plan.
pub held_schedules
    : (calls : List Call) (mode : Mode) (bytes : List ℕ)
    → held_bytes calls ≡ some bytes
    → (p : Plan) (ports flows : ℕ)
    → read_as_of mode bytes ≡ accepted p ports flows
    → (T even odd : ℕ) (buffer : List ℕ) (n : ℕ)
    → gates_answer (after calls) T even odd buffer ≡ result n
    → Schedules p T even odd buffer (gates_leaves (after calls) T even odd buffer) n
held_schedules calls mode bytes held p ports flows reads T even odd buffer n e =
    subst (λ (q : Plan). Schedules q T even odd buffer (gates_leaves (after calls) T even odd buffer) n)
    (after_held calls mode bytes held p ports flows reads)
    (schedules (after calls) T even odd buffer n e)

-- what the answer that a list was written means
pub gates_mean
    : (tables : Plan) (T even odd : ℕ) (buffer : List ℕ)
    → GatesMean tables T even odd buffer (gates_leaves tables T even odd buffer) (gates_answer tables T even odd buffer)
gates_mean tables T even odd buffer calls mode bytes p ports flows left held reads n e =
    subst (λ (q : Plan). Schedules q T even odd buffer (gates_leaves tables T even odd buffer) n)
    (left ∙ after_held calls mode bytes held p ports flows reads)
    (schedules tables T even odd buffer n e)
