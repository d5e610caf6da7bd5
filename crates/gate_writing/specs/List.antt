-- The bytes of a gate control list, by the numbers that it is made of, and how many they are.
use Rattle.std.specs.Prelude.{ℕ, ◌+◌, ◌*◌, ◌<◌, ◌≡◌, true, cond, List, ◌++◌, ltb}
use Rattle.cqf.specs.Port.{window_of}
use Rattle.gate_lists.specs.GateList.{field_size, gate_bytes, list_bytes, lasting, both_closed, one_open}
use Rattle.gate_writing.specs.Gates.{queues_ok}

-- a field: gate states, and for how many ns they hold; and the same, left out where it is 0 ns
abbrev pub gate_of : (states interval : ℕ) → List ℕ
gate_of states interval = gate_bytes (record { states = states; interval = interval })

abbrev pub lasting_of : (states interval : ℕ) → List ℕ
lasting_of states interval = list_bytes (lasting states interval)

-- a cycle
abbrev pub cycle_of : (closed opened guard window : ℕ) → List ℕ
cycle_of closed opened guard window = lasting_of closed guard ++ (lasting_of opened window ++ lasting_of closed guard)

-- the list of two cycles of T ns
unfoldable pub list_of : (guard T even odd : ℕ) → List ℕ
unfolding list_bytes one_open
list_of guard T even odd =
    cycle_of (both_closed even odd) (one_open even odd even) guard (window_of guard T)
    ++ cycle_of (both_closed even odd) (one_open even odd odd) guard (window_of guard T)

-- how many bytes they are
abbrev pub lasting_size : (interval : ℕ) → ℕ
lasting_size interval = cond (ltb 0 interval) field_size 0

abbrev pub cycle_size : (guard window : ℕ) → ℕ
cycle_size guard window = lasting_size guard + lasting_size window + lasting_size guard

abbrev pub list_size_by : (guard T : ℕ) → ℕ
list_size_by guard T = 2 * cycle_size guard (window_of guard T)

-- two of the eight queues, and a window that is a number of 4 bytes
pub record ListFits (guard T even odd : ℕ) : Type 0 where
  pub queues : queues_ok even odd ≡ true
  pub fits : window_of guard T < 4294967296
