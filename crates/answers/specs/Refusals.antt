-- The number of each refusal: document 01, or document 02 where it says so.
use Rattle.std.specs.Prelude.{ℕ}

-- a plan of 0 bytes, or above 16,384
abbrev pub bad_size : ℕ
bad_size = 1

-- fewer bytes left than a field's head or its length needs
abbrev pub truncated : ℕ
truncated = 2

-- tag unknown
abbrev pub unknown_tag : ℕ
unknown_tag = 3

-- length not one that the tag allows
abbrev pub wrong_length : ℕ
wrong_length = 4

-- a number outside its range
abbrev pub out_of_range : ℕ
out_of_range = 5

-- a field that was there before
abbrev pub duplicate : ℕ
duplicate = 6

-- a port twice in a route
abbrev pub repeated_port : ℕ
repeated_port = 7

-- no header, or no flow
abbrev pub incomplete : ℕ
incomplete = 8

-- a port or a flow that is not in the plan
abbrev pub not_in_plan : ℕ
not_in_plan = 9

-- duration 0 or above top
abbrev pub bad_duration : ℕ
bad_duration = 10

-- scratch, or in document 02 a list of slacks, shorter than 64 numbers
abbrev pub short_scratch : ℕ
short_scratch = 11

-- document 02: in the strict reading a field that should have stood earlier
abbrev pub out_of_order : ℕ
out_of_order = 12

-- document 02: a buffer or a list too short for what is written
abbrev pub short_buffer : ℕ
short_buffer = 13

-- document 02: a batch has no such slot
abbrev pub bad_slot : ℕ
bad_slot = 15

-- document 02: going back to the older form, a flow of over sixteen ports
abbrev pub long_route : ℕ
long_route = 16

-- document 02: a frame length outside its range
abbrev pub bad_length : ℕ
bad_length = 17

-- document 02: not two different queues of the eight
abbrev pub bad_queue : ℕ
bad_queue = 18

-- no plan held
abbrev pub no_plan_held : ℕ
no_plan_held = 20

-- the duration is not admissible
abbrev pub not_admissible : ℕ
not_admissible = 21

-- no admissible duration from 1 to top
abbrev pub no_least : ℕ
no_least = 22

-- top not admissible, asked for margin-safe
abbrev pub no_margin_safe : ℕ
no_margin_safe = 23

-- slack asked for a port that no flow crosses, or that is not in the plan
abbrev pub not_crossed : ℕ
not_crossed = 24

-- document 02: no span ends at the duration or later
abbrev pub no_span_from : ℕ
no_span_from = 25

-- document 02: the steps did not suffice
abbrev pub not_finished : ℕ
not_finished = 26

-- document 02: a plan placed in a slot that has one
abbrev pub occupied : ℕ
occupied = 27

-- document 02: a slot that has no final answer
abbrev pub unanswered : ℕ
unanswered = 28

-- document 02: a flow that is not in the plan
abbrev pub absent_flow : ℕ
absent_flow = 29
