-- The gate control list of a duration, for two cycles: fields of tag 21 (hexadecimal) and length 5, each with gate states and for
-- how many ns they hold. In the states, bit q from the lowest as 0 is 1 where queue q is open.
use Rattle.std.specs.Prelude.{ℕ, zero, suc, ◌+◌, ◌-◌, ◌*◌, List, [], ◌∷◌, ◌++◌, cond, ltb}
use Rattle.cqf.specs.Plan.{Plan}
use Rattle.cqf.specs.Port.{window}
use Rattle.plan.specs.Bytes.{head_size}
use Rattle.plan_reading.specs.FieldBytes.{bytes2, bytes4}

abbrev pub gate_tag : ℕ
gate_tag = 0x21

abbrev pub gate_size : ℕ
gate_size = 5

-- a whole field
abbrev pub field_size : ℕ
field_size = head_size + gate_size

-- a port has eight queues, counted from 0
abbrev pub queues : ℕ
queues = 8

-- gate states, and for how many ns they hold
pub record Gates : Type 0 where
  pub states : ℕ
  pub interval : ℕ

abbrev pub gate_bytes : Gates → List ℕ
gate_bytes g = gate_tag ∷ (bytes2 gate_size ++ (g.states ∷ bytes4 g.interval))

unfoldable pub list_bytes : List Gates → List ℕ
list_bytes [] = []
list_bytes (g ∷ gs) = gate_bytes g ++ list_bytes gs

-- the bit of queue q
unfoldable pub bit : ℕ → ℕ
bit zero = 1
bit (suc q) = 2 * bit q

-- two queues closed and the other six open; one of the two open as well
unfoldable pub both_closed : (even odd : ℕ) → ℕ
unfolding bit
both_closed even odd = 255 - bit even - bit odd

unfoldable pub one_open : (even odd queue : ℕ) → ℕ
unfolding both_closed
one_open even odd queue = both_closed even odd + bit queue

-- an interval of 0 is left out
abbrev pub lasting : (states interval : ℕ) → List Gates
lasting states interval = cond (ltb 0 interval) (record { states = states; interval = interval } ∷ []) []

-- a cycle: S with both closed, the window with one open, S with both closed
unfoldable pub gate_cycle : Plan → (T even odd queue : ℕ) → List Gates
unfolding one_open window
gate_cycle p T even odd queue =
    lasting (both_closed even odd) p.guard
    ++ (lasting (one_open even odd queue) (window p T)
    ++ lasting (both_closed even odd) p.guard)

-- the even queue opens in the first cycle, the odd one in the second
unfoldable pub gate_list : Plan → (T even odd : ℕ) → List Gates
unfolding gate_cycle
gate_list p T even odd = gate_cycle p T even odd even ++ gate_cycle p T even odd odd

-- how many bytes that is: six fields where there is a guard band, two where there is none
abbrev pub list_size : Plan → ℕ
list_size p = field_size * cond (ltb 0 p.guard) 6 2

unfoldable pub gate_list_bytes : Plan → (T even odd : ℕ) → List ℕ
unfolding gate_list list_bytes
gate_list_bytes p T even odd = list_bytes (gate_list p T even odd)
